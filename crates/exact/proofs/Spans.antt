-- The spans that 63 tests, of arc, H and exp: the pair stays as it is, and bounds the exact low end.
-- No test is made at depth n; what the rounded chain tested bounds the exact one by overlap. Assumes nothing.
use mathlib.Core.Path.{◌≡◌}
use mathlib.Core.Bool.{Bool}
use Prim.Native.Nat.{◌*◌, ◌<◌}
use native.Mathlib.Nat.{le_of_lt}
use lib.Dec.{T, lit<, lit≤, leb, ltb}
use Rattle.pairs.specs.declared.answer.Pair.{Pair}
use Rattle.pairs.specs.Figures.{Figures, given, refused, refuse, after}
use Rattle.pairs.specs.Rounded.{U, up}
use Rattle.pairs.specs.Answers as answers
use Rattle.pairs.specs.Answers.{admit}
use Rattle.exact.specs.Fraction.{Fraction, ◌⊑◌, whole}
use Rattle.exact.specs.Depth.{Bracket}
use Rattle.exact.proofs.Order.{◌⟫◌}
use Rattle.exact.proofs.Overlap.{Overlap, trillionths, trillionths_mono}
use Rattle.exact.proofs.Passing.{after_passing, refuse_passing, admit_passing, not_above, not_reached}
use Rattle.exact.proofs.Meets.{Meets}

unfoldable pub half : Fraction
half = record { num = 1; den = 2; den_above_0 = lit< tt }

U_is_1 : trillionths U ⊑ whole 1
unfolding trillionths whole
U_is_1 = record { cross = lit≤ tt }

third_below_half : trillionths (up (U * U) (3 * U)) ⊑ half
unfolding trillionths half up
third_below_half = record { cross = lit≤ tt }

pub 256_U_is_256 : trillionths (256 * U) ⊑ whole 256
unfolding trillionths whole
256_U_is_256 = record { cross = lit≤ tt }

module _ {a : Figures} {x : Bracket} (h : Meets a x) where
  abbrev tested : Bool → Figures
  tested b = after a (admit a.pair (refuse b (refused 63) (given a.pair)))

  tested_passing : (P : Pair → Type 0) (b : Bool) → (a.number ≡ 0 → (T b → ⊥) → P a.pair) → (tested b).number ≡ 0 → P (tested b).pair
  tested_passing P b k = after_passing P a _ (λ u. admit_passing P a.pair _ (refuse_passing P b 62 (given a.pair) (λ t _. k u t)))

  tested_meets : (b : Bool) → Meets (tested b) x
  tested_meets b = record { sound = h.sound; overlap = tested_passing (λ r. Overlap r x) b (λ u t. h.overlap u) }

  tested_bound : (b : Bool) {z : Fraction} → ((T b → ⊥) → trillionths a.pair.high ⊑ z) → (tested b).number ≡ 0 → x.low ⊑ z
  tested_bound b {z} bound = tested_passing (λ _. x.low ⊑ z) b (λ u t. (h.overlap u).high ⟫ bound t)

  pub at_most_one_meets : Meets (answers.at_most_one a) x
  unfolding answers.at_most_one answers.at_most_one_of
  at_most_one_meets = tested_meets (ltb U a.pair.high)

  pub at_most_one_bound : (answers.at_most_one a).number ≡ 0 → x.low ⊑ whole 1
  unfolding answers.at_most_one answers.at_most_one_of
  at_most_one_bound = tested_bound (ltb U a.pair.high) (λ t. trillionths_mono (not_above t) ⟫ U_is_1)

  pub at_most_a_third_meets : Meets (answers.at_most_a_third a) x
  unfolding answers.at_most_a_third answers.at_most_a_third_of
  at_most_a_third_meets = tested_meets (ltb (up (U * U) (3 * U)) a.pair.high)

  pub at_most_a_third_bound : (answers.at_most_a_third a).number ≡ 0 → x.low ⊑ half
  unfolding answers.at_most_a_third answers.at_most_a_third_of
  at_most_a_third_bound =
      tested_bound (ltb (up (U * U) (3 * U)) a.pair.high) (λ t. trillionths_mono (not_above t) ⟫ third_below_half)

  pub below_256_meets : Meets (answers.below_256 a) x
  unfolding answers.below_256 answers.below_256_of
  below_256_meets = tested_meets (leb (256 * U) a.pair.high)

  pub below_256_high : (answers.below_256 a).number ≡ 0 → (answers.below_256 a).pair.high < 256 * U
  unfolding answers.below_256 answers.below_256_of
  below_256_high = tested_passing (λ r. r.high < 256 * U) (leb (256 * U) a.pair.high) (λ _ t. not_reached t)

  pub below_256_bound : (answers.below_256 a).number ≡ 0 → x.low ⊑ whole 256
  unfolding answers.below_256 answers.below_256_of
  below_256_bound =
      tested_bound (leb (256 * U) a.pair.high) (λ t. trillionths_mono (le_of_lt (not_reached t)) ⟫ 256_U_is_256)
