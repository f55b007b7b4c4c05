-- `nearest` meets its contract: the limit is kept from where the loop stands to the far end of the span.
-- Assumes nothing.
use mathlib.Core.Path.{sym, ap, ◌∙◌}
use Prim.Native.Nat.{◌-◌, ◌≤◌, ◌<◌}
use native.Mathlib.Omega.{arith}
use lib.Dec.{lit≤}
use Rattle.planning.specs.StandOff.{flux_at, shown_at}
use Rattle.planning.proofs.SameState.{accepted_at}
use Rattle.planning.proofs.PairAt.{high_of, pair_there}
use Rattle.planning.proofs.Nearest.{keeps_farthest, keeps_nearer, stand_off_is}
use Rattle.planning.proofs.stand_off.nearest.Goals as goal

pub loop-decimetres-init : goal.loop-decimetres-init
loop-decimetres-init c =
    record {
      here = c.requires.farthest_value;
      kept = keeps_farthest c.args.s c.args.limit c.requires.kept.high;
      least = lit≤ tt;
    }

pub unwrap-nearer-requires : goal.unwrap-nearer-requires
unwrap-nearer-requires c =
    pair_there c.args.s _ _ c.pair_at.ensures (accepted_at c.args.s _ c.requires.kept.accepted (omega arith) (omega arith))

pub returns-then-limit-nearer : goal.returns-then-limit-nearer
returns-then-limit-nearer c =
    let d = c.loop-decimetres.decimetres in
    let here = c.loop-decimetres.invariant in
    let there = rw c.unwrap-nearer.ensures at c.pair_at.ensures in
    let over : c.args.limit < (flux_at c.args.s (d - 1)).high = omega (arith, high_of c.args.s (d - 1) c.unwrap-nearer.result there.0) in
    here.here ∙ ap (shown_at c.args.s) (sym (stand_off_is c.args.s c.args.limit d here.least (omega arith) here.kept (λ _. over)))

pub loop-decimetres-preserved : goal.loop-decimetres-preserved
loop-decimetres-preserved c =
    let d = c.loop-decimetres.decimetres in
    let there = rw c.unwrap-nearer.ensures at c.pair_at.ensures in
    let within : (flux_at c.args.s (d - 1)).high ≤ c.args.limit = omega (arith, high_of c.args.s (d - 1) c.unwrap-nearer.result there.0) in
    record {
      here = there.0;
      kept = keeps_nearer c.args.s c.args.limit d (d - 1) (omega arith) (omega arith) c.loop-decimetres.invariant.kept within;
      least = omega arith;
    }

pub returns : goal.returns
returns c =
    let d = c.loop-decimetres.decimetres in
    let here = c.loop-decimetres.invariant in
    here.here ∙ ap (shown_at c.args.s) (sym (stand_off_is c.args.s c.args.limit d here.least (omega arith) here.kept (λ m. absurd (omega arith))))
