-- H and ln 10: the rounded ones overlap the exact ones at every depth from 8 on.
-- A further term of H and the powers after it fit into the last power, since t is at most a half. Assumes nothing.
use mathlib.Core.Path.{◌≡◌, refl, subst}
use Prim.Native.Nat.{ℕ, zero, suc, ◌+◌, ◌*◌, ◌-◌, ◌≤◌}
use native.Mathlib.Nat.{add-zero, add-suc, add-sub_of_le, mul-le-mul_left}
use native.Mathlib.Omega.{arith}
use lib.Dec.{lit<, lit≤}
use Rattle.pairs.specs.declared.answer.Pair.{Pair}
use Rattle.pairs.specs.Figures.{Figures}
use Rattle.pairs.specs.Answers.{answers}
use Rattle.pairs.specs.Answers as answer
use Rattle.pairs.specs.Series.{power, arc_term, total, h_of, h_series, ln_ten}
use Rattle.exact.specs.Fraction.{Fraction, ◌⊑◌, whole, ◌⊕◌, ◌⊗◌, ◌⊘◌}
use Rattle.exact.specs.Depth as depth
use Rattle.exact.specs.Depth.{Bracket, exact}
use Rattle.exact.proofs.Order.{◌⟫◌, ⊑_refl, ⊕-mono, ⊕-assoc', ⊕-left, ⊕-0, ⊗-mono, ⊗-1, ⊗-distributes, 0_least}
use Rattle.exact.proofs.Overlap.{Overlap, low_only, sum_overlap, wider_overlap}
use Rattle.exact.proofs.Sound.{sum_sound, high_only_sound}
use Rattle.exact.proofs.Passing.{Passing, sum_second, product_first, product_second, high_only_first}
use Rattle.exact.proofs.Meets.{Meets, after_two, high_only_passing, constant_meets, sum_meets, times_meets}
use Rattle.exact.proofs.Spans.{half, at_most_a_third_meets, at_most_a_third_bound}
use Rattle.exact.proofs.Arc.{power_meets, arc_term_meets, reciprocal_meets}

two_halves : half ⊕ half ⊑ whole 1
unfolding half ◌⊕◌ whole
two_halves = record { cross = lit≤ tt }

half_below_1 : half ⊑ whole 1
unfolding half whole
half_below_1 = record { cross = lit≤ tt }

over_half : (p : Fraction) (k : ℕ) → 2 ≤ k → p ⊘ whole k ⊑ p ⊗ half
unfolding ◌⊘◌ ◌⊗◌ whole half
over_half p k h = record { cross = mul-le-mul_left (p.num * 1) (omega (arith, mul-le-mul_left p.den h)) }

-- The first k exact terms.
abbrev terms : ℕ → Bracket → ℕ → Bracket
terms n x k = total (exact n) (arc_term (exact n) x) k

-- With the next power at the low end alone, and at the high end alone.
abbrev terms_and_low : ℕ → Bracket → ℕ → Bracket
terms_and_low n x k = depth.sum (terms n x k) (low_only (power (exact n) x k))

abbrev terms_and_high : ℕ → Bracket → ℕ → Bracket
terms_and_high n x k = depth.sum (terms n x k) (depth.high_only (power (exact n) x k))

module _ (n : ℕ) (x : Bracket) (small : x.low ⊑ half) where
  -- A term and the next power fit into the power.
  fits : (p : Fraction) (k : ℕ) → 2 ≤ k → p ⊘ whole k ⊕ p ⊗ (x.low ⊗ x.low) ⊑ p
  fits p k h =
      ⊕-mono (over_half p k h) (⊗-mono ⊑_refl (⊗-mono small (small ⟫ half_below_1) ⟫ ⊗-1))
      ⟫ ⊗-distributes p half half ⟫ ⊗-mono ⊑_refl two_halves ⟫ ⊗-1

  rest_falls :
      (k r : ℕ) → 1 ≤ k →
      (terms n x (k + r)).low ⊕ (power (exact n) x (k + r)).low ⊑ (terms n x k).low ⊕ (power (exact n) x k).low
  unfolding total arc_term power depth.sum depth.over depth.product
  rest_falls k zero p = rw add-zero ⊑_refl
  rest_falls k (suc r) p =
      rw add-suc (⊕-assoc' _ _ _ ⟫ ⊕-mono ⊑_refl (fits _ (2 * (k + r) + 1) (omega arith)) ⟫ rest_falls k r p)

  total_grows : (k r : ℕ) → (terms n x k).high ⊑ (terms n x (k + r)).high
  unfolding total depth.sum
  total_grows k zero = rw add-zero ⊑_refl
  total_grows k (suc r) = rw add-suc (total_grows k r ⟫ ⊕-left _ _)

module _ (n : ℕ) {a : Figures} {x : Bracket} (h : Meets a x) where
  total_meets : (k : ℕ) → Meets (total answers (arc_term answers a) k) (terms n x k)
  unfolding total
  total_meets zero = constant_meets 0 1 (lit< tt) refl
  total_meets (suc k) = sum_meets (total_meets k) (arc_term_meets n h k)

  -- The first k terms, and the whole power after them at the rounded high end.
  first_passing :
      (k : ℕ) →
      Passing (λ r. Overlap r (terms_and_low n x k))
      (answer.sum (total answers (arc_term answers a) k) (answer.high_only (power answers a k)))
  unfolding answer.sum answer.sum_of
  first_passing k =
      after_two (total answers (arc_term answers a) k) (answer.high_only (power answers a k))
      (λ u v. sum_overlap ((total_meets k).overlap u) (high_only_passing (power_meets n h k) v))

  wider : (m : ℕ) → 16 ≤ m → x.low ⊑ half → {p : Pair} → Overlap p (terms_and_low n x 16) → Overlap p (terms_and_high n x m)
  unfolding depth.sum depth.high_only low_only
  wider m l small {p} o =
      subst (λ k. Overlap p (terms_and_high n x k)) (add-sub_of_le l)
      (wider_overlap (⊕-mono ⊑_refl 0_least ⟫ rest_falls n x small 16 (m - 16) (lit≤ tt))
      (⊕-0 ⟫ total_grows n x small 16 (m - 16) ⟫ ⊕-left _ _) o)

  power_passes : (k : ℕ) → (power answers a (suc k)).number ≡ 0 → a.number ≡ 0
  unfolding power
  power_passes k u = product_first _ _ (product_second _ _ u)

  h_of_meets : 8 ≤ n → (a.number ≡ 0 → x.low ⊑ half) → Meets (h_of answers a) (h_of (exact n) x)
  unfolding h_of
  h_of_meets deep small =
      record {
        sound = sum_sound (total_meets (2 * n)).sound (high_only_sound (power_meets n h (2 * n)).sound);
        overlap = λ u.
            wider (2 * n) (omega arith) (small (power_passes 15 (high_only_first _ (sum_second _ _ u)))) (first_passing 16 u);
      }

pub h_series_meets : (n : ℕ) → 8 ≤ n → {a : Figures} {x : Bracket} → Meets a x → Meets (h_series answers a) (h_series (exact n) x)
unfolding h_series
h_series_meets n deep h = h_of_meets n (at_most_a_third_meets h) deep (at_most_a_third_bound h)

pub ln_ten_meets : (n : ℕ) → 8 ≤ n → Meets (ln_ten answers) (ln_ten (exact n))
unfolding ln_ten
ln_ten_meets n deep =
    sum_meets (times_meets (h_series_meets n deep (reciprocal_meets n 3 (lit< tt))) 6)
    (times_meets (h_series_meets n deep (reciprocal_meets n 9 (lit< tt))) 2)
