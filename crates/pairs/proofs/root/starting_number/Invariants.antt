-- `starting_number` meets its contract. The loop's invariant: the root is at most s, which is small and not 0. The measure is s.
use Prim.Native.Nat.{ℕ, zero, ◌+◌, ◌*◌, ◌^◌, ◌<◌}
use Rattle.pairs.proofs.root.starting_number.Given as goal

-- what a step keeps, of a radicand n
pub record Holds (n s : ℕ) : Type 0 where
  pub root_below : n < (s + 1) * (s + 1)
  pub above_0 : zero < s
  pub short : s < 2 ^ 15

abbrev pub invariant-loop-s : goal.invariant-loop-s
invariant-loop-s l = Holds l.n l.s

abbrev pub decreases-loop-s : goal.decreases-loop-s
decreases-loop-s l = l.s
