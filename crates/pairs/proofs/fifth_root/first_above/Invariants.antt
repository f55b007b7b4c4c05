-- `first_above` meets its contract: the loop keeps a bracket of the bound and halves it until its ends are neighbours.
use mathlib.Core.Path.{◌≡◌}
use Prim.Native.Nat.{◌-◌}
use Rattle.pairs.proofs.fifth_root.first_above.Given as goal

abbrev pub invariant-loop-b : goal.invariant-loop-b
invariant-loop-b l = (l.b.bound ≡ l.fn.bound) × (l.b.rounding ≡ l.fn.rounding)

abbrev pub decreases-loop-b : goal.decreases-loop-b
decreases-loop-b l = l.b.upper - l.b.lower
