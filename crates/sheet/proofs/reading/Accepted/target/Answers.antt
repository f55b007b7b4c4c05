-- `target` meets its contract: the pool and the fuel stand where the indices say, inside the sheet.
-- Assumes nothing.
use mathlib.Core.Path.{ap, ◌∙◌}
use Prim.Native.Nat.{◌<◌}
use native.Mathlib.Omega.{arith}
use Rattle.chain.specs.Flux.{flux_of}
use Rattle.sheet.proofs.Places.{pool_found, fuel_found, target_shown}
use Rattle.sheet.proofs.reading.Accepted.target.Goals as goal

pub two-requires-2 : goal.two-requires-2
two-requires-2 c =
    let k = c.args.self.now.sound in
    omega (arith, k.whole, pool_found _ _ _ _ k c.args.i c.requires)

pub enquiry-requires : goal.enquiry-requires
enquiry-requires c =
    let k = c.args.self.now.sound in
    let there : c.two.result < c.args.self.now.counts.pools = omega (arith, pool_found _ _ _ _ k c.args.i c.requires) in
    omega (arith, k.whole, fuel_found _ _ _ _ k c.two.result there)

pub returns : goal.returns
returns c =
    c.flux.ensures ∙ ap flux_of c.enquiry.ensures
    ∙ target_shown _ _ _ _ c.args.self.now.sound c.args.i _ _ c.two.ensures c.two-2.ensures
