-- What the formulas are written over. The series and the chain stand once, over any record of these operations,
-- and are read in several arithmetics: rounded pairs without bound, what the code answers, exact fractions at depth n, ranges, stages.
use Rattle.std.specs.Prelude.{ℕ}

pub record Arithmetic : Type 1 where
  pub Carrier : Type 0
  -- "A constant is an exact pair": the first number over the second.
  pub constant : ℕ → ℕ → Carrier
  pub sum : Carrier → Carrier → Carrier
  pub difference : Carrier → Carrier → Carrier
  pub product : Carrier → Carrier → Carrier
  pub quotient : Carrier → Carrier → Carrier
  pub times : Carrier → ℕ → Carrier
  pub over : Carrier → ℕ → Carrier
  pub root : Carrier → Carrier
  pub fifth_root : Carrier → Carrier
  -- [0, b] of [a, b]: what counts in the high end alone.
  pub high_only : Carrier → Carrier
  -- Half the number of terms that both ends of a series have: 8, and n at depth n.
  pub pairs_of_terms : ℕ
  -- The spans that 63 tests: a high end at most 1 (arc), at most 1/3 (H), below 256 (exp). No test is made at depth n.
  pub at_most_one : Carrier → Carrier
  pub at_most_a_third : Carrier → Carrier
  pub below_256 : Carrier → Carrier
  -- Request 8, for exp(-y): the second, or [0, 2,062 trillionths] where the low end of the first is 20 or more. At depth n always the
  -- second.
  pub unless_cold : Carrier → Carrier → Carrier
