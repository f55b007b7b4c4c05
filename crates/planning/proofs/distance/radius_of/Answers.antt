-- `radius_of` meets its contract: the pair, up to a whole mm.
-- Assumes nothing.
use mathlib.Core.Path.{◌≡◌, ap}
use Prim.Native.Nat.{◌≤◌}
use native.Mathlib.Omega.{arith}
use Rattle.std.proofs.Common.{rules}
use Rattle.std.specs.Prelude.{Result, Ok}
use Rattle.pairs.specs.declared.answer.Pair.{Pair}
use Rattle.pairs.specs.declared.answer.Refusal.{Refusal}
use Rattle.planning.proofs.Radius.{radius_most, rounded_up}
use Rattle.planning.proofs.distance.radius_of.Goals as goal

unwrapped : (a : Result Pair Refusal) {p q : Pair} → a ≡ Ok p → a ≡ Ok q → p ≡ q
unwrapped a e f = cc

pub overflow_cast-result : goal.overflow_cast-result
overflow_cast-result c =
    let area : (100 ≤ c.args.area) × (c.args.area ≤ 190_000) = search rules in
    let same = unwrapped c.radius_pair.result c.unwrap-radius.ensures c.radius_pair.ensures in
    record { fits = omega (arith, ap (λ (p : Pair). p.high) same, radius_most c.args.area area.0 area.1) }

pub returns : goal.returns
returns c l h =
    let same = unwrapped c.radius_pair.result c.unwrap-radius.ensures c.radius_pair.ensures in
    omega (arith, ap (λ (p : Pair). p.high) same, rounded_up c.args.area)
