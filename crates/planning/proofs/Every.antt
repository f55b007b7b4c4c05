-- Every number of a row passes a test: each of them, and all of them. By induction over the row. Assumes nothing.
use mathlib.Core.Bool.{Bool}
use Prim.Native.Nat.{ℕ, zero, suc, ◌+◌, ◌≤◌}
use native.Mathlib.Omega.{arith}
use lib.Dec.{T}
use Rattle.std.proofs.lemmas.Bool.Decides.{nat_tests}
use Rattle.planning.specs.StandOff.{every}

module _ (passes : ℕ → Bool) where
  pub each : (d n : ℕ) → T (every passes d n) → (x : ℕ) → d ≤ x → x ≤ d + n → T (passes x)
  unfolding every
  each d zero t x l h = grind (arith, nat_tests)
  each d (suc n) t x l h = grind (arith, nat_tests, each (suc d) n)

  pub all : (d n : ℕ) → ((x : ℕ) → d ≤ x → x ≤ d + n → T (passes x)) → T (every passes d n)
  unfolding every
  all d zero h = grind (arith, h)
  all d (suc n) h = grind (arith, nat_tests, all (suc d) n)
