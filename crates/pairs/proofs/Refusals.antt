-- Arc, H and exp turn a pair back: 61 and 63, in this order, and a refusal that comes in stays to the end of the series. Exp then gives
-- the cold pair from 20 on and the series below. By computing on a refusal and on a test. Assumes nothing.
use mathlib.Core.Path.{◌≡◌, refl, sym, ap}
use Prim.Native.Nat.{ℕ, suc, ◌*◌, ◌≤◌, ◌<◌}
use borrow.Author.Tests.{lt-ltb, le-ltb, le-leb, lt-leb}
use Rattle.pairs.specs.declared.answer.Pair.{Pair}
use Rattle.pairs.specs.Rounded as R
use Rattle.pairs.specs.Rounded.{U, is_cold, cold_pair}
use Rattle.pairs.specs.Figures.{given, refused}
use Rattle.pairs.specs.Answers as A
use Rattle.pairs.specs.Answers.{answers, arc_of, h_series_of, exp_neg_of}
use Rattle.pairs.specs.Series.{plus_terms, alternating, power, arc_term, arc, half_angle, atan, exp_series, exp_neg, total, h_of, h_series}

module _ (n : ℕ) where
  arc_terms_refused : alternating answers (arc_term answers (refused (suc n))) ≡ refused (suc n)
  unfolding alternating plus_terms arc_term power A.constant A.fitting R.constant A.sum A.difference A.over
  arc_terms_refused = refl

  h_refused : h_of answers (refused (suc n)) ≡ refused (suc n)
  unfolding h_of total arc_term power A.constant A.fitting R.constant A.sum A.over
  h_refused = refl

  pub arc_refused : arc answers (refused (suc n)) ≡ refused (suc n)
  unfolding arc A.at_most_one
  arc_refused = arc_terms_refused

  pub half_angle_refused : half_angle answers (refused (suc n)) ≡ refused (suc n)
  unfolding half_angle A.quotient
  half_angle_refused = refl

  pub atan_refused : atan answers (refused (suc n)) ≡ refused (suc n)
  unfolding atan half_angle A.quotient A.times
  atan_refused = rw arc_refused

  pub exp_refused : exp_neg answers (refused (suc n)) ≡ refused (suc n)
  unfolding exp_neg A.below_256 A.unless_cold
  exp_refused = refl

-- ---- arc
module _ (t : Pair) where
  pub arc_61 : t.high < t.low → refused 61 ≡ arc_of t
  unfolding arc A.at_most_one A.at_most_one_of
  arc_61 h = rw (lt-ltb t.high t.low h) (sym (arc_terms_refused 60))

  pub arc_63 : t.low ≤ t.high → U < t.high → refused 63 ≡ arc_of t
  unfolding arc A.at_most_one A.at_most_one_of
  arc_63 o h = rw (le-ltb t.high t.low o, lt-ltb U t.high h) (sym (arc_terms_refused 62))

  -- ---- H
  pub h_61 : t.high < t.low → refused 61 ≡ h_series_of t
  unfolding h_series A.at_most_a_third A.at_most_a_third_of
  h_61 h = rw (lt-ltb t.high t.low h) (sym (h_refused 60))

  pub h_63 : t.low ≤ t.high → 333_333_333_334 < t.high → refused 63 ≡ h_series_of t
  unfolding h_series A.at_most_a_third A.at_most_a_third_of R.up
  h_63 o h = rw (le-ltb t.high t.low o, lt-ltb 333_333_333_334 t.high h) (sym (h_refused 62))

  -- ---- exp
  pub exp_61 : t.high < t.low → refused 61 ≡ exp_neg_of t
  unfolding exp_neg A.below_256 A.below_256_of A.unless_cold
  exp_61 h = rw (lt-ltb t.high t.low h)

  pub exp_63 : t.low ≤ t.high → 256 * U ≤ t.high → refused 63 ≡ exp_neg_of t
  unfolding exp_neg A.below_256 A.below_256_of A.unless_cold
  exp_63 o h = rw (le-ltb t.high t.low o, le-leb (256 * U) t.high h)

  passes_63 : t.low ≤ t.high → t.high < 256 * U → A.below_256 (given t) ≡ given t
  unfolding A.below_256 A.below_256_of
  passes_63 o h = rw (le-ltb t.high t.low o, lt-leb (256 * U) t.high h)

  pub exp_cold : t.low ≤ t.high → t.high < 256 * U → 20 * U ≤ t.low → given cold_pair ≡ exp_neg_of t
  unfolding exp_neg A.unless_cold is_cold
  exp_cold o h l = rw (passes_63 o h, le-leb (20 * U) t.low l)

  pub exp_below_20 : t.low ≤ t.high → t.high < 256 * U → t.low < 20 * U → exp_series answers (given t) ≡ exp_neg_of t
  unfolding exp_neg A.unless_cold is_cold
  exp_below_20 o h l = rw (passes_63 o h, lt-leb (20 * U) t.low l) (ap (exp_series answers) (sym (passes_63 o h)))
