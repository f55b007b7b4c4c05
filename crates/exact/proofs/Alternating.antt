-- Terms that alternate from plus: 16 and 17 rounded ones overlap 2n and 2n+1 exact ones, for n from 8 on. The first ones are
-- compared one by one; the exact tail, taken in pairs, has the right sign where each term is at most the last. Assumes nothing.
use mathlib.Core.Path.{◌≡◌, refl, subst}
use Prim.Native.Nat.{ℕ, zero, suc, ◌+◌, ◌*◌, ◌-◌, ◌≤◌}
use native.Mathlib.Nat.{add-zero, add-suc, add-sub_of_le}
use native.Mathlib.Numerals.{add-one}
use native.Mathlib.Omega.{arith}
use lib.Dec.{lit<}
use Rattle.pairs.specs.Figures.{Figures}
use Rattle.pairs.specs.Answers as answers
use Rattle.pairs.specs.Answers.{answers}
use Rattle.pairs.specs.Series.{plus_terms, minus_terms, alternating}
use Rattle.exact.specs.Fraction.{Fraction, ◌⊑◌, ◌⊕◌}
use Rattle.exact.specs.Depth as depth
use Rattle.exact.specs.Depth.{Bracket, exact}
use Rattle.exact.proofs.Order.{◌⟫◌, ⊑_refl, ⊕-mono, ⊕-assoc, ⊕-assoc', ⊕-left, ⊕-0, ⊖-from, ⊖-to, 0_least}
use Rattle.exact.proofs.Overlap.{Overlap, low_only, sum_overlap, difference_overlap_wider}
use Rattle.exact.proofs.Sound.{Sound, End, low_end, high_end, sum_sound, difference_sound, high_only_sound}
use Rattle.exact.proofs.Passing.{Passing, sum_first, sum_second}
use Rattle.exact.proofs.Meets.{Meets, after_two, high_only_passing, constant_meets, sum_meets}

-- ---- one end of the exact sums; the sums of plus terms are taken at one end, those of minus terms at the other
abbrev plus : ℕ → (ℕ → Bracket) → ℕ → Bracket
plus n x k = plus_terms (exact n) x k

abbrev minus : ℕ → (ℕ → Bracket) → ℕ → Bracket
minus n x k = minus_terms (exact n) x k

-- The first k pairs of terms without the minus terms, and the next term at the low end.
abbrev plus_and_next : ℕ → (ℕ → Bracket) → ℕ → Bracket
plus_and_next n x k = depth.sum (plus n x k) (low_only (x (2 * k)))

module _ (n : ℕ) (near far : Bracket → Fraction) (N : End near) (F : End far) (x : ℕ → Bracket) where
  -- A pair of terms adds nothing below 0: what stood above the first k pairs stays.
  pub pairs_rise :
      ((j : ℕ) → far (x (suc j)) ⊑ near (x j)) → (z : Fraction) (k r : ℕ) →
      z ⊕ far (minus n x k) ⊑ near (plus n x k) → z ⊕ far (minus n x (k + r)) ⊑ near (plus n x (k + r))
  unfolding plus_terms minus_terms
  pairs_rise falls z k zero h = rw add-zero h
  pairs_rise falls z k (suc r) h =
      rw (add-suc, N.sum_at, F.sum_at)
      (⊕-assoc _ _ _ ⟫ ⊕-mono (pairs_rise falls z k r h) (rw (add-one (2 * (k + r))) (falls (2 * (k + r)))))

  -- From the second term on a pair adds nothing above 0.
  pub pairs_fall :
      ((j : ℕ) → near (x (suc j)) ⊑ far (x j)) → (z : Fraction) (k r : ℕ) →
      near (plus n x k) ⊕ near (x (2 * k)) ⊑ z ⊕ far (minus n x k) →
      near (plus n x (k + r)) ⊕ near (x (2 * (k + r))) ⊑ z ⊕ far (minus n x (k + r))
  unfolding plus_terms minus_terms
  pairs_fall falls z k zero h = rw add-zero h
  pairs_fall falls z k (suc r) h =
      rw (add-suc, N.sum_at, F.sum_at)
      (⊕-mono (pairs_fall falls z k r h) (rw (next (k + r)) (falls (2 * (k + r) + 1))) ⟫ ⊕-assoc' _ _ _)
    where
      next : (m : ℕ) → 2 * suc m ≡ suc (2 * m + 1)
      next m = omega arith

-- ---- the rounded terms against the first exact ones
module _ (n : ℕ) (f : ℕ → Figures) (x : ℕ → Bracket) (meets : (j : ℕ) → Meets (f j) (x j)) where
  plus_meets : (k : ℕ) → Meets (plus_terms answers f k) (plus n x k)
  unfolding plus_terms
  plus_meets zero = constant_meets 0 1 (lit< tt) refl
  plus_meets (suc k) = sum_meets (plus_meets k) (meets (2 * k))

  minus_meets : (k : ℕ) → Meets (minus_terms answers f k) (minus n x k)
  unfolding minus_terms
  minus_meets zero = constant_meets 0 1 (lit< tt) refl
  minus_meets (suc k) = sum_meets (minus_meets k) (meets (2 * k + 1))

  -- All plus terms, and the next one at the rounded high end.
  first_passing :
      (k : ℕ) →
      Passing (λ r. Overlap r (plus_and_next n x k)) (answers.sum (plus_terms answers f k) (answers.high_only (f (2 * k))))
  unfolding answers.sum answers.sum_of
  first_passing k =
      after_two (plus_terms answers f k) (answers.high_only (f (2 * k)))
      (λ u v. sum_overlap ((plus_meets k).overlap u) (high_only_passing (meets (2 * k)) v))

  sound : Sound (alternating (exact n) x)
  unfolding alternating
  sound = difference_sound (sum_sound (plus_meets n).sound (high_only_sound (meets (2 * n)).sound)) (minus_meets n).sound

-- ---- where the minus terms are no refusal, none of them is
second_passes : (f : ℕ → Figures) (k : ℕ) → (minus_terms answers f (suc k)).number ≡ 0 → (f 1).number ≡ 0
unfolding minus_terms
second_passes f zero h = sum_second _ (f 1) h
second_passes f (suc k) h = second_passes f k (sum_first _ (f (2 * suc k + 1)) h)

-- ---- all terms
-- The exact series with k + r pairs of terms is at least as wide as the first k pairs and the next term at the low end.
module _ (k r : ℕ) (x : ℕ → Bracket) (falls : (j : ℕ) → (x (suc j)).low ⊑ (x j).high) where
  above :
      (c : Fraction) →
      c ⊕ (minus (k + r) x k).low ⊑ (plus_and_next (k + r) x k).high → c ⊑ (alternating (exact (k + r)) x).high
  unfolding alternating depth.difference depth.sum low_only
  above c h =
      ⊖-from _ (pairs_rise (k + r) (λ y. y.high) (λ y. y.low) high_end low_end x falls c k r (h ⟫ ⊕-0) ⟫ ⊕-left _ _)

  below :
      (c : Fraction) →
      (plus_and_next (k + r) x k).low ⊑ c ⊕ (minus (k + r) x k).high → (alternating (exact (k + r)) x).low ⊑ c
  unfolding alternating depth.difference depth.sum depth.high_only low_only
  below c h =
      ⊖-to _
      (⊕-mono ⊑_refl 0_least ⟫ pairs_fall (k + r) (λ y. y.low) (λ y. y.high) low_end high_end x falls c k r h)

-- The other two bounds, for terms that are points.
pub low_above :
    (n : ℕ) (x : ℕ → Bracket) (c : Fraction) →
    c ⊕ (minus n x n).high ⊑ (plus n x n).low → c ⊑ (alternating (exact n) x).low
unfolding alternating depth.difference depth.sum
low_above n x c h = ⊖-from _ (h ⟫ ⊕-left _ _)

pub high_below :
    (n : ℕ) (x : ℕ → Bracket) (c : Fraction) →
    (plus n x n).high ⊕ (x (2 * n)).high ⊑ c ⊕ (minus n x n).low → (alternating (exact n) x).high ⊑ c
unfolding alternating depth.difference depth.sum depth.high_only
high_below n x c h = ⊖-to _ h

-- Where the second term is no refusal, no exact term's low end is above the high end of the one before.
abbrev pub Falling : (ℕ → Figures) → (ℕ → Bracket) → Type 0
Falling f x = (f 1).number ≡ 0 → (j : ℕ) → (x (suc j)).low ⊑ (x j).high

meets_at :
    (r : ℕ) (f : ℕ → Figures) (x : ℕ → Bracket) → ((j : ℕ) → Meets (f j) (x j)) → Falling f x →
    Meets (alternating answers f) (alternating (exact (8 + r)) x)
unfolding alternating answers.difference answers.difference_of
meets_at r f x meets falling =
    record {
      sound = sound (8 + r) f x meets;
      overlap =
          after_two (answers.sum (plus_terms answers f 8) (answers.high_only (f 16))) (minus_terms answers f 8)
          (λ u v.
          let falls = falling (second_passes f 7 v) in
          difference_overlap_wider (above 8 r x falls) (below 8 r x falls) (first_passing (8 + r) f x meets 8 u)
          ((minus_meets (8 + r) f x meets 8).overlap v));
    }

pub alternating_meets :
    (n : ℕ) → 8 ≤ n → (f : ℕ → Figures) (x : ℕ → Bracket) → ((j : ℕ) → Meets (f j) (x j)) → Falling f x →
    Meets (alternating answers f) (alternating (exact n) x)
alternating_meets n deep f x meets falling =
    subst (λ m. Meets (alternating answers f) (alternating (exact m) x)) (add-sub_of_le deep)
    (meets_at (n - 8) f x meets falling)
