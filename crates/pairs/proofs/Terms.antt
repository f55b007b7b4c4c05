-- The series in the arithmetic of answers: for numbers of at most 1 no step is refused, and the answer is the rounded series.
-- Every power and every term is at most 1, so n terms sum to at most n. Assumes nothing.
use mathlib.Core.Path.{◌≡◌, refl, sym, ap, ap₂, ◌∙◌}
use Prim.Native.Nat.{ℕ, zero, suc, ◌+◌, ◌*◌, ◌^◌, ◌≤◌, ◌<◌, zero-le}
use native.Mathlib.Nat.{le_trans, le_refl, mul-le-mul, zero-lt-suc}
use native.Mathlib.Omega.{arith}
use lib.Dec.{lit<}
use borrow.Author.Tests.{le-ltb, ne_eqb}
use Rattle.pairs.specs.declared.answer.Pair.{Pair}
use Rattle.pairs.specs.Rounded as R
use Rattle.pairs.specs.Rounded.{U, rounded, up}
use Rattle.pairs.specs.Figures.{Figures, given}
use Rattle.pairs.specs.Answers as A
use Rattle.pairs.specs.Answers.{answers}
use Rattle.pairs.specs.Series.{plus_terms, minus_terms, alternating, power, arc_term, arc, exp_term, total, h_of, h_series}
use Rattle.pairs.proofs.Rounding.{up_least, up_le}
use Rattle.pairs.proofs.Ordered as O
use Rattle.pairs.proofs.Agreement.{fitting_given}
use Rattle.pairs.proofs.Turned.{sum_turned, difference_turned, product_turned, over_turned}

-- A pair in order, both ends at most m trillionths.
pub record Within (m : ℕ) (p : Pair) : Type 0 where
  pub ordered : p.low ≤ p.high
  pub high : p.high ≤ m

-- ---- one operation on numbers of at most 1
pub product_within : {p q : Pair} → Within U p → Within U q → Within U (R.product p q)
unfolding R.product
product_within h k =
    record {
      ordered = (O.product_ordered (record { ends = h.ordered }) (record { ends = k.ordered })).ends;
      high = up_least _ U U (lit< tt) (mul-le-mul h.high k.high);
    }

pub over_within : {m : ℕ} {p : Pair} → Within m p → (n : ℕ) → zero < n → Within m (R.over p n)
unfolding R.over
over_within {p = p} h n z =
    record {
      ordered = (O.over_ordered (record { ends = h.ordered }) n z).ends;
      high = le_trans (up_le p.high n z) h.high;
    }

high_only_within : {m : ℕ} {p : Pair} → Within m p → Within m (R.high_only p)
unfolding R.high_only
high_only_within h = record { ordered = zero-le; high = h.high }

sum_within : {m n : ℕ} {p q : Pair} → Within m p → Within n q → Within (m + n) (R.sum p q)
unfolding R.sum
sum_within h k = record { ordered = omega arith; high = omega arith }

pub sum_given : {m n : ℕ} (p q : Pair) → Within m p → Within n q → m + n < 2 ^ 64 → A.sum (given p) (given q) ≡ given (R.sum p q)
unfolding A.sum R.sum
sum_given p q h k l = sym ((sum_turned p q).is h.ordered k.ordered refl (omega arith))

difference_given : {m n : ℕ} (p q : Pair) → Within m p → Within n q → m < 2 ^ 64 → A.difference (given p) (given q) ≡ given (R.difference p q)
unfolding A.difference R.difference
difference_given p q h k l = sym ((difference_turned p q).is h.ordered k.ordered refl (omega arith))

pub high_only_given : {m : ℕ} (p : Pair) → Within m p → m < 2 ^ 64 → A.high_only (given p) ≡ given (R.high_only p)
unfolding A.high_only A.high_only_of R.high_only
high_only_given p h l = fitting_given _ (omega arith)

pub product_given : {p q : Pair} → Within U p → Within U q → A.product (given p) (given q) ≡ given (R.product p q)
unfolding A.product
product_given {p} {q} h k = sym ((product_turned p q).is h.ordered k.ordered refl (omega (arith, product_within h k)))

pub over_given : {p : Pair} → Within U p → (n : ℕ) → zero < n → A.over (given p) n ≡ given (R.over p n)
unfolding A.over
over_given {p} h n z = sym ((over_turned p n).is h.ordered (ne_eqb n 0 (omega arith)) (omega (arith, over_within h n z)))

-- ---- sums of terms of at most 1
module _ (t : ℕ → Pair) (small : (j : ℕ) → Within U (t j)) where
  pub plus_within : (n : ℕ) → Within (n * U) (plus_terms rounded t n)
  unfolding plus_terms R.constant R.sum
  plus_within zero = record { ordered = zero-le; high = zero-le }
  plus_within (suc n) = omega (arith, plus_within n, small (2 * n))

  pub minus_within : (n : ℕ) → Within (n * U) (minus_terms rounded t n)
  unfolding minus_terms R.constant R.sum
  minus_within zero = record { ordered = zero-le; high = zero-le }
  minus_within (suc n) = omega (arith, minus_within n, small (2 * n + 1))

  pub total_within : (n : ℕ) → Within (n * U) (total rounded t n)
  unfolding total R.constant R.sum
  total_within zero = record { ordered = zero-le; high = zero-le }
  total_within (suc n) = omega (arith, total_within n, small n)

  module _ (s : ℕ → Figures) (terms : (j : ℕ) → s j ≡ given (t j)) where
    plus_given : (n : ℕ) → n ≤ 16 → plus_terms answers s n ≡ given (plus_terms rounded t n)
    unfolding plus_terms A.constant A.fitting R.constant
    plus_given zero h = refl
    plus_given (suc n) h =
        ap₂ A.sum (plus_given n (omega arith)) (terms (2 * n))
        ∙ sum_given _ _ (plus_within n) (small (2 * n)) (omega arith)

    minus_given : (n : ℕ) → n ≤ 16 → minus_terms answers s n ≡ given (minus_terms rounded t n)
    unfolding minus_terms A.constant A.fitting R.constant
    minus_given zero h = refl
    minus_given (suc n) h =
        ap₂ A.sum (minus_given n (omega arith)) (terms (2 * n + 1))
        ∙ sum_given _ _ (minus_within n) (small (2 * n + 1)) (omega arith)

    pub total_given : (n : ℕ) → n ≤ 16 → total answers s n ≡ given (total rounded t n)
    unfolding total A.constant A.fitting R.constant
    total_given zero h = refl
    total_given (suc n) h =
        ap₂ A.sum (total_given n (omega arith)) (terms n)
        ∙ sum_given _ _ (total_within n) (small n) (omega arith)

    pub alternating_given : alternating answers s ≡ given (alternating rounded t)
    unfolding alternating
    alternating_given =
        let last = high_only_within (small 16) in
        ap₂ A.difference
        (ap₂ A.sum (plus_given 8 (omega arith)) (ap A.high_only (terms 16) ∙ high_only_given (t 16) (small 16) (omega arith))
        ∙ sum_given _ _ (plus_within 8) last (omega arith))
        (minus_given 8 (omega arith))
        ∙ difference_given _ _ (sum_within (plus_within 8) last) (minus_within 8) (omega arith)

-- ---- the terms
module _ (t : Pair) (h : Within U t) where
  pub power_within : (j : ℕ) → Within U (power rounded t j)
  unfolding power
  power_within zero = h
  power_within (suc j) = product_within (power_within j) (product_within h h)

  power_given : (j : ℕ) → power answers (given t) j ≡ given (power rounded t j)
  unfolding power
  power_given zero = refl
  power_given (suc j) =
      ap₂ A.product (power_given j) (product_given h h) ∙ product_given (power_within j) (product_within h h)

  pub arc_term_within : (j : ℕ) → Within U (arc_term rounded t j)
  unfolding arc_term
  arc_term_within j = over_within (power_within j) (2 * j + 1) (omega arith)

  arc_term_given : (j : ℕ) → arc_term answers (given t) j ≡ given (arc_term rounded t j)
  unfolding arc_term
  arc_term_given j =
      ap (λ (f : Figures). A.over f (2 * j + 1)) (power_given j) ∙ over_given (power_within j) (2 * j + 1) (omega arith)

  pub exp_term_within : (j : ℕ) → Within U (exp_term rounded t j)
  unfolding exp_term R.constant
  exp_term_within zero = record { ordered = le_refl U; high = le_refl U }
  exp_term_within (suc j) = over_within (product_within (exp_term_within j) h) (suc j) (zero-lt-suc j)

  exp_term_given : (j : ℕ) → exp_term answers (given t) j ≡ given (exp_term rounded t j)
  unfolding exp_term A.constant A.fitting R.constant
  exp_term_given zero = refl
  exp_term_given (suc j) =
      ap (λ (f : Figures). A.over f (suc j))
      (ap (λ (f : Figures). A.product f (given t)) (exp_term_given j) ∙ product_given (exp_term_within j) h)
      ∙ over_given (product_within (exp_term_within j) h) (suc j) (zero-lt-suc j)

  -- ---- the series
  pub arc_given : arc answers (given t) ≡ given (arc rounded t)
  unfolding arc A.at_most_one A.at_most_one_of
  arc_given = rw (le-ltb t.high t.low h.ordered, le-ltb U t.high h.high) (alternating_given _ arc_term_within _ arc_term_given)

  pub exp_given : alternating answers (exp_term answers (given t)) ≡ given (alternating rounded (exp_term rounded t))
  exp_given = alternating_given _ exp_term_within _ exp_term_given

  h_of_given : h_of answers (given t) ≡ given (h_of rounded t)
  unfolding h_of
  h_of_given =
      ap₂ A.sum (total_given _ arc_term_within _ arc_term_given 16 (omega arith))
      (ap A.high_only (power_given 16) ∙ high_only_given _ (power_within 16) (omega arith))
      ∙ sum_given _ _ (total_within _ arc_term_within 16) (high_only_within (power_within 16)) (omega arith)

  pub h_series_given : t.high ≤ 333_333_333_334 → h_series answers (given t) ≡ given (h_series rounded t)
  unfolding h_series A.at_most_a_third A.at_most_a_third_of R.up
  h_series_given k = rw (le-ltb t.high t.low h.ordered, le-ltb 333_333_333_334 t.high k) h_of_given
