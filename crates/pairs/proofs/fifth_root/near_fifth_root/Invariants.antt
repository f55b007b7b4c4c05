-- `near_fifth_root` meets its contract: s stays from 3,000 to 8,000, so that nothing overflows.
use Prim.Native.Nat.{◌-◌, ◌≤◌}
use Rattle.pairs.proofs.fifth_root.near_fifth_root.Given as goal

abbrev pub invariant-loop : goal.invariant-loop
invariant-loop l = (3_000 ≤ l.s) × (l.s ≤ 8_000) × (l.counter ≤ 4)

abbrev pub decreases-loop : goal.decreases-loop
decreases-loop l = 4 - l.counter
