-- A relation between two arithmetics that each operation keeps is kept by every series.
-- By a walk over the definitions, once for all relations. Assumes nothing.
use mathlib.Core.Path.{◌≡◌, subst}
use mathlib.Core.Bool.{Bool, true, false}
use Prim.Native.Nat.{ℕ, zero, suc, ◌+◌, ◌*◌}
use Rattle.pairs.specs.Arithmetic.{Arithmetic}
use Rattle.pairs.specs.Series.{none, one, plus_terms, minus_terms, alternating, power, arc_term, arc, half_angle, atan, pi, exp_term, squared, exp_series, exp_neg, total, h_of, h_series, ln_ten}

-- The same choice on both sides.
pub choice_kept : {X Y : Type 0} (R : X → Y → Type 0) (b : Bool) {p q : X} {c d : Y} → R p c → R q d → R (elim b [ true ↦ p | false ↦ q ]) (elim b [ true ↦ c | false ↦ d ])
choice_kept R true h k = h
choice_kept R false h k = k

pub record Kept (A B : Arithmetic) (R : A.Carrier → B.Carrier → Type 0) : Type 0 where
  pub same_terms : A.pairs_of_terms ≡ B.pairs_of_terms
  pub constant : (n d : ℕ) → R (A.constant n d) (B.constant n d)
  pub sum : {a c : A.Carrier} {b d : B.Carrier} → R a b → R c d → R (A.sum a c) (B.sum b d)
  pub difference : {a c : A.Carrier} {b d : B.Carrier} → R a b → R c d → R (A.difference a c) (B.difference b d)
  pub product : {a c : A.Carrier} {b d : B.Carrier} → R a b → R c d → R (A.product a c) (B.product b d)
  pub quotient : {a c : A.Carrier} {b d : B.Carrier} → R a b → R c d → R (A.quotient a c) (B.quotient b d)
  pub times : {a : A.Carrier} {b : B.Carrier} → R a b → (n : ℕ) → R (A.times a n) (B.times b n)
  pub over : {a : A.Carrier} {b : B.Carrier} → R a b → (n : ℕ) → R (A.over a n) (B.over b n)
  pub root : {a : A.Carrier} {b : B.Carrier} → R a b → R (A.root a) (B.root b)
  pub fifth_root : {a : A.Carrier} {b : B.Carrier} → R a b → R (A.fifth_root a) (B.fifth_root b)
  pub high_only : {a : A.Carrier} {b : B.Carrier} → R a b → R (A.high_only a) (B.high_only b)
  pub at_most_one : {a : A.Carrier} {b : B.Carrier} → R a b → R (A.at_most_one a) (B.at_most_one b)
  pub at_most_a_third : {a : A.Carrier} {b : B.Carrier} → R a b → R (A.at_most_a_third a) (B.at_most_a_third b)
  pub below_256 : {a : A.Carrier} {b : B.Carrier} → R a b → R (A.below_256 a) (B.below_256 b)
  pub unless_cold : {a c : A.Carrier} {b d : B.Carrier} → R a b → R c d → R (A.unless_cold a c) (B.unless_cold b d)

module _ {A B : Arithmetic} {R : A.Carrier → B.Carrier → Type 0} (K : Kept A B R) where
  pub none_kept : R (none A) (none B)
  none_kept = K.constant 0 1

  pub one_kept : R (one A) (one B)
  one_kept = K.constant 1 1

  module _ (s : ℕ → A.Carrier) (t : ℕ → B.Carrier) (terms : (j : ℕ) → R (s j) (t j)) where
    plus_terms_kept : (n : ℕ) → R (plus_terms A s n) (plus_terms B t n)
    unfolding plus_terms
    plus_terms_kept zero = none_kept
    plus_terms_kept (suc n) = K.sum (plus_terms_kept n) (terms (2 * n))

    minus_terms_kept : (n : ℕ) → R (minus_terms A s n) (minus_terms B t n)
    unfolding minus_terms
    minus_terms_kept zero = none_kept
    minus_terms_kept (suc n) = K.sum (minus_terms_kept n) (terms (2 * n + 1))

    total_kept : (n : ℕ) → R (total A s n) (total B t n)
    unfolding total
    total_kept zero = none_kept
    total_kept (suc n) = K.sum (total_kept n) (terms n)

    pub alternating_kept : R (alternating A s) (alternating B t)
    unfolding alternating
    alternating_kept =
        let n = A.pairs_of_terms in
        subst (λ n. R (alternating A s) (B.difference (B.sum (plus_terms B t n) (B.high_only (t (2 * n)))) (minus_terms B t n)))
        K.same_terms
        (K.difference (K.sum (plus_terms_kept n) (K.high_only (terms (2 * n)))) (minus_terms_kept n))

  pub power_kept : {t : A.Carrier} {b : B.Carrier} → R t b → (j : ℕ) → R (power A t j) (power B b j)
  unfolding power
  power_kept h zero = h
  power_kept h (suc j) = K.product (power_kept h j) (K.product h h)

  pub arc_term_kept : {t : A.Carrier} {b : B.Carrier} → R t b → (j : ℕ) → R (arc_term A t j) (arc_term B b j)
  unfolding arc_term
  arc_term_kept h j = K.over (power_kept h j) (2 * j + 1)

  pub arc_kept : {t : A.Carrier} {b : B.Carrier} → R t b → R (arc A t) (arc B b)
  unfolding arc
  arc_kept h = alternating_kept _ _ (arc_term_kept (K.at_most_one h))

  pub half_angle_kept : {t : A.Carrier} {b : B.Carrier} → R t b → R (half_angle A t) (half_angle B b)
  unfolding half_angle
  half_angle_kept h = K.quotient h (K.sum one_kept (K.root (K.sum one_kept (K.product h h))))

  pub atan_kept : {t : A.Carrier} {b : B.Carrier} → R t b → R (atan A t) (atan B b)
  unfolding atan
  atan_kept h = K.times (arc_kept (half_angle_kept (half_angle_kept h))) 4

  pub pi_kept : R (pi A) (pi B)
  unfolding pi
  pi_kept =
      K.difference (K.times (arc_kept (K.quotient one_kept (K.constant 5 1))) 16)
      (K.times (arc_kept (K.quotient one_kept (K.constant 239 1))) 4)

  pub exp_term_kept : {z : A.Carrier} {b : B.Carrier} → R z b → (j : ℕ) → R (exp_term A z j) (exp_term B b j)
  unfolding exp_term
  exp_term_kept h zero = one_kept
  exp_term_kept h (suc j) = K.over (K.product (exp_term_kept h j) h) (suc j)

  pub squared_kept : (n : ℕ) {a : A.Carrier} {b : B.Carrier} → R a b → R (squared A n a) (squared B n b)
  unfolding squared
  squared_kept zero h = h
  squared_kept (suc n) h = squared_kept n (K.product h h)

  exp_series_kept : {y : A.Carrier} {b : B.Carrier} → R y b → R (exp_series A y) (exp_series B b)
  unfolding exp_series
  exp_series_kept h = squared_kept 8 (alternating_kept _ _ (exp_term_kept (K.over h 256)))

  pub exp_neg_kept : {y : A.Carrier} {b : B.Carrier} → R y b → R (exp_neg A y) (exp_neg B b)
  unfolding exp_neg
  exp_neg_kept h = K.unless_cold (K.below_256 h) (exp_series_kept (K.below_256 h))

  pub h_of_kept : {t : A.Carrier} {b : B.Carrier} → R t b → R (h_of A t) (h_of B b)
  unfolding h_of
  h_of_kept {t} {b} h =
      let n = A.pairs_of_terms in
      subst (λ n. R (h_of A t) (B.sum (total B (arc_term B b) (2 * n)) (B.high_only (power B b (2 * n))))) K.same_terms
      (K.sum (total_kept _ _ (arc_term_kept h) (2 * n)) (K.high_only (power_kept h (2 * n))))

  pub h_series_kept : {t : A.Carrier} {b : B.Carrier} → R t b → R (h_series A t) (h_series B b)
  unfolding h_series
  h_series_kept h = h_of_kept (K.at_most_a_third h)

  pub ln_ten_kept : R (ln_ten A) (ln_ten B)
  unfolding ln_ten
  ln_ten_kept =
      K.sum (K.times (h_series_kept (K.quotient one_kept (K.constant 3 1))) 6)
      (K.times (h_series_kept (K.quotient one_kept (K.constant 9 1))) 2)
