-- One turn of each series' loop: the pairs that it holds are the sums of terms so far, and the terms to come are those of the series.
-- Assumes nothing.
use mathlib.Core.Path.{◌≡◌, refl, sym, ap, ap₂, ◌∙◌}
use Prim.Native.Nat.{ℕ, zero, suc, ◌+◌, ◌*◌, ◌-◌, ◌≤◌, ◌<◌}
use native.Mathlib.Nat.{le_refl, add-zero}
use native.Mathlib.Numerals.{add-one}
use native.Mathlib.Omega.{arith}
use Rattle.pairs.specs.declared.answer.Pair.{Pair}
use Rattle.pairs.specs.Rounded as R
use Rattle.pairs.specs.Rounded.{U, rounded, ends}
use Rattle.pairs.specs.Private.{power_from, exp_from}
use Rattle.pairs.specs.Series.{plus_terms, minus_terms, alternating, power, arc_term, arc, exp_term}
use Rattle.pairs.proofs.Rounding.{up_le}
use Rattle.pairs.proofs.Terms.{Within, product_within, over_within}

-- ---- alternating sums
-- The sum that term j joins: that of the terms j-2, j-4, .. before it.
unfoldable pub every_second : (ℕ → Pair) → ℕ → Pair
every_second term zero = ends 0 0
every_second term (suc zero) = ends 0 0
every_second term (suc (suc j)) = R.sum (every_second term j) (term j)

even_second : (term : ℕ → Pair) (n : ℕ) → every_second term (2 * n) ≡ plus_terms rounded term n
unfolding every_second plus_terms R.constant
even_second term zero = refl
even_second term (suc n) =
    let two : 2 * suc n ≡ suc (suc (2 * n)) = omega arith in
    rw two (ap (λ (p : Pair). R.sum p (term (2 * n))) (even_second term n))

odd_second : (term : ℕ → Pair) (n : ℕ) → every_second term (suc (2 * n)) ≡ minus_terms rounded term n
unfolding every_second minus_terms R.constant
odd_second term zero = refl
odd_second term (suc n) =
    let two : 2 * suc n ≡ suc (suc (2 * n)) = omega arith in
    rw two
    (ap₂ R.sum (odd_second term n) (ap term (sym (add-one (2 * n)))))

-- The two sums after n terms: the one that the next term joins, and the other.
pub record Alternated (term : ℕ → Pair) (n : ℕ) (sum other : Pair) : Type 0 where
  pub sum_is : sum ≡ every_second term n
  pub other_is : other ≡ every_second term (suc n)
  pub sum_small : Within (n * U) sum
  pub other_small : Within (suc n * U) other

pub alternated_none : (term : ℕ → Pair) → Alternated term 0 (ends 0 0) (ends 0 0)
unfolding every_second
alternated_none term = record { sum_is = refl; other_is = refl; sum_small = omega arith; other_small = omega arith }

-- A term of at most 1 joins its sum, and the two change places.
pub alternated_more :
    (term : ℕ → Pair) (n : ℕ) (sum other a r : Pair) → Alternated term n sum other → a ≡ term n → Within U a → r ≡ R.sum sum a
    → Alternated term (n + 1) other r
unfolding every_second R.sum
alternated_more term n sum other a r s e w f =
    record {
      sum_is = s.other_is ∙ rw add-one;
      other_is = f ∙ ap₂ R.sum s.sum_is e ∙ rw add-one;
      sum_small = omega (arith, s.other_small);
      other_small = rw f (omega (arith, s.sum_small, w));
    }

-- The next of the terms to come is term n, where they are those from n on.
pub next_is : (term : ℕ → Pair) (n : ℕ) {first : Pair} (a : Pair) → first ≡ term (n + 0) → a ≡ first → a ≡ term n
next_is term n a h e = e ∙ h ∙ ap term (add-zero n)

-- The pair of the series from the sums of sixteen terms and the seventeenth.
after_16 :
    (term : ℕ → Pair) (sum other last r : Pair) → Alternated term 16 sum other → last ≡ term 16
    → r ≡ R.difference (ends sum.low (sum.high + last.high)) other → r ≡ alternating rounded term
unfolding alternating R.sum R.difference R.high_only
after_16 term sum other last r s e f =
    f ∙ ap₂ ends first second
  where
    plus : sum ≡ plus_terms rounded term 8
    plus = s.sum_is ∙ even_second term 8

    minus : other ≡ minus_terms rounded term 8
    minus = s.other_is ∙ odd_second term 8

    first : sum.low - other.high ≡ (plus_terms rounded term 8).low + 0 - (minus_terms rounded term 8).high
    first = omega (arith, ap (λ (p : Pair). p.low) plus, ap (λ (p : Pair). p.high) minus)

    second : sum.high + last.high - other.low ≡ (plus_terms rounded term 8).high + (term 16).high - (minus_terms rounded term 8).low
    second = omega (arith, ap (λ (p : Pair). p.high) e, ap (λ (p : Pair). p.high) plus, ap (λ (p : Pair). p.low) minus)

pub alternated_all :
    (term : ℕ → Pair) (n : ℕ) (sum other last r : Pair) {first : Pair} → n ≡ 16 → Alternated term n sum other → first ≡ term (n + 0)
    → last ≡ first → r ≡ R.difference (ends sum.low (sum.high + last.high)) other → r ≡ alternating rounded term
alternated_all term n sum other last r e s h f g = after_16 term sum other last r (rw e at s) (rw e at (next_is term n last h f)) g

-- ---- what one operation on numbers of at most 1 keeps
pub product_small :
    (p q : Pair) → p.low ≤ p.high → p.high ≤ U → q.low ≤ q.high → q.high ≤ U
    → ((R.product p q).low ≤ (R.product p q).high) × ((R.product p q).high ≤ U)
product_small p q o h k l =
    let w = product_within (record { ordered = o; high = h }) (record { ordered = k; high = l }) in (w.ordered, w.high)

pub over_small : (p : Pair) (n : ℕ) → zero < n → ((R.over p n).high ≤ p.high) × (p.low ≤ p.high → (R.over p n).low ≤ (R.over p n).high)
unfolding R.over
over_small p n z = (up_le p.high n z, λ o. (over_within (record { ordered = o; high = le_refl p.high }) n z).ordered)

-- ---- the powers to come, and the terms of the arc
pub power_from_t : (t : Pair) (k : ℕ) → power_from t (R.product t t) k ≡ power rounded t k
unfolding power_from power
power_from_t t zero = refl
power_from_t t (suc k) = ap (λ (p : Pair). R.product p (R.product t t)) (power_from_t t k)

power_from_next : (p q : Pair) (k : ℕ) → power_from (R.product p q) q k ≡ power_from p q (suc k)
unfolding power_from
power_from_next p q zero = refl
power_from_next p q (suc k) = ap (λ (x : Pair). R.product x q) (power_from_next p q k)

pub arc_terms_t : (t : Pair) (k : ℕ) → R.over (power_from t (R.product t t) k) (2 * (0 + k) + 1) ≡ arc_term rounded t k
unfolding arc_term
arc_terms_t t k = ap₂ R.over (power_from_t t k) (omega arith)

pub arc_terms_next : (p q : Pair) (n k : ℕ) → R.over (power_from (R.product p q) q k) (2 * (n + 1 + k) + 1) ≡ R.over (power_from p q (k + 1)) (2 * (n + (k + 1)) + 1)
arc_terms_next p q n k = ap₂ R.over (power_from_next p q k ∙ ap (power_from p q) (sym (add-one k))) (omega arith)

-- ---- the terms of exp to come
pub exp_from_1 : (z : Pair) (k : ℕ) → exp_from (ends U U) z 0 k ≡ exp_term rounded z k
unfolding exp_from exp_term R.constant
exp_from_1 z zero = refl
exp_from_1 z (suc k) = ap₂ (λ (p : Pair) (n : ℕ). R.over (R.product p z) n) (exp_from_1 z k) (omega arith)

exp_from_suc : (p z : Pair) (n k : ℕ) → exp_from (R.over (R.product p z) (n + 1)) z (n + 1) k ≡ exp_from p z n (suc k)
unfolding exp_from
exp_from_suc p z n zero = ap (R.over (R.product p z)) (omega arith)
exp_from_suc p z n (suc k) = ap₂ (λ (x : Pair) (m : ℕ). R.over (R.product x z) m) (exp_from_suc p z n k) (omega arith)

pub exp_from_next : (p z : Pair) (n k : ℕ) → exp_from (R.over (R.product p z) (n + 1)) z (n + 1) k ≡ exp_from p z n (k + 1)
exp_from_next p z n k = exp_from_suc p z n k ∙ ap (exp_from p z n) (sym (add-one k))

-- ---- the series of the terms to come
pub same_alternating : (f g : ℕ → Pair) → ((k : ℕ) → f k ≡ g k) → alternating rounded f ≡ alternating rounded g
same_alternating f g h = ap (alternating rounded) (λ i k. h k i)

pub arc_alternating : (t p q : Pair) → p ≡ t → q ≡ R.product t t → alternating rounded (λ k. R.over (power_from p q k) (2 * (0 + k) + 1)) ≡ arc rounded t
unfolding arc
arc_alternating t p q e f = rw (e, f) (same_alternating _ _ (arc_terms_t t))

pub exp_alternating : (z y : Pair) → z ≡ y → alternating rounded (λ k. exp_from (ends U U) z 0 k) ≡ alternating rounded (exp_term rounded y)
exp_alternating z y e = rw e (same_alternating _ _ (exp_from_1 y))
