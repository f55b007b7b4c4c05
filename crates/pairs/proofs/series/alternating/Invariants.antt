-- `alternating` meets its contract: the loop holds the sums of n terms, which change places at each term, and the terms to come are the rest.
use mathlib.Core.Path.{◌≡◌}
use Prim.Native.Nat.{ℕ, ◌+◌}
use Rattle.pairs.proofs.Turns.{Alternated}
use Rattle.pairs.proofs.series.alternating.Given as goal

abbrev pub invariant-loop-n : goal.invariant-loop-n
invariant-loop-n g l =
    ((k : ℕ) → g.T.Terms.to_come l.terms l.n k ≡ g.T.Terms.to_come l.fn.terms 0 (l.n + k))
    × Alternated (g.T.Terms.to_come l.fn.terms 0) l.n l.sum l.other
