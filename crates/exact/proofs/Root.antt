-- The exact root of order k at depth n: its power stands on the right side of what it is taken of, and it is the greatest
-- or the least such multiple of 2^-n. From the laws of the two searches. Assumes nothing.
use Prim.Native.Nat.{ℕ, zero, suc, ◌*◌, ◌^◌, ◌≤◌, ◌<◌, zero-le}
use native.Mathlib.Nat.{le_trans, le_refl, lt_of_not-le, lt_of_lt_of_le, mul-le-mul_right, le-mul_of_pos_right, mul-zero, zero-mul, pow-le-pow_right}
use native.Mathlib.Decide.{dec_le}
use native.Mathlib.Omega.{arith}
use lib.Dec.{lit<}
use Rattle.pairs.proofs.Search.{greatest_passes, greatest_bound, least_passes, least_bound}
use Rattle.exact.specs.Fraction.{Fraction, ◌⊑◌, at_most, whole, ◌⊗◌, power}
use Rattle.exact.specs.Depth.{multiple, enough, root_below, root_above}
use Rattle.exact.proofs.Order.{◌⟫◌, at_most→, →at_most, ◌⊏◌, ⊏-not, power_mono, power_grows, above_from}

pub multiple_mono : (n : ℕ) {s t : ℕ} → s ≤ t → multiple n s ⊑ multiple n t
unfolding multiple
multiple_mono n h = record { cross = mul-le-mul_right (2 ^ n) h }

power_of_0 : (k n : ℕ) {x : Fraction} → power (multiple n 0) (suc k) ⊑ x
unfolding multiple power ◌⊗◌
power_of_0 k n = record { cross = rw (mul-zero, zero-mul) zero-le }

-- The end of the search is at least 1 and at least x; what is past it is above x.
enough_1 : (n s : ℕ) (x : Fraction) → enough n x ≤ s → whole 1 ⊑ multiple n s
unfolding multiple whole enough
enough_1 n s x h = record { cross = omega arith }

enough_x : (n s : ℕ) (x : Fraction) → enough n x ≤ s → x ⊑ multiple n s
unfolding multiple enough
enough_x n s x h = record { cross = le_trans (omega arith) (le-mul_of_pos_right s x.den_above_0) }

past_x : (n s : ℕ) (x : Fraction) → enough n x < s → x ⊏ multiple n s
unfolding multiple enough
past_x n s x h = record { cross = lt_of_lt_of_le (omega arith) (le-mul_of_pos_right s x.den_above_0) }

module _ (k n : ℕ) (x : Fraction) where
  pub root_below_power : power (root_below (suc k) n x) (suc k) ⊑ x
  unfolding root_below
  root_below_power =
      at_most→ (greatest_passes (λ s. at_most (power (multiple n s) (suc k)) x) (enough n x) (→at_most (power_of_0 k n)))

  pub root_above_power : x ⊑ power (root_above (suc k) n x) (suc k)
  unfolding root_above
  root_above_power =
      at_most→
      (least_passes (λ s. at_most x (power (multiple n s) (suc k))) (enough n x) (enough n x) (le_refl _)
      (→at_most (enough_x n (enough n x) x (le_refl _) ⟫ power_grows k (enough_1 n (enough n x) x (le_refl _)))))

  within : (s : ℕ) → power (multiple n s) (suc k) ⊑ x → s ≤ enough n x
  within s h =
      elim (dec_le s (enough n x)) [
        | yes p ↦ p
        | no p ↦
            let past : enough n x < s = lt_of_not-le p in
            absurd (⊏-not (past_x n s x past) (power_grows k (enough_1 n s x (le_trans (omega arith) past)) ⟫ h))
      ]

  pub root_below_greatest : (s : ℕ) → power (multiple n s) (suc k) ⊑ x → multiple n s ⊑ root_below (suc k) n x
  unfolding root_below
  root_below_greatest s h =
      multiple_mono n (greatest_bound (λ s. at_most (power (multiple n s) (suc k)) x) (enough n x) s (within s h) (→at_most h))

  pub root_above_least : (s : ℕ) → x ⊑ power (multiple n s) (suc k) → root_above (suc k) n x ⊑ multiple n s
  unfolding root_above
  root_above_least s h =
      multiple_mono n (least_bound (λ s. at_most x (power (multiple n s) (suc k))) (enough n x) s (→at_most h))

-- ---- whole numbers as multiples of 2^-n
whole_below : (n s : ℕ) → whole s ⊑ multiple n (s * 2 ^ n)
unfolding multiple whole
whole_below n s = record { cross = omega arith }

whole_above : (n s : ℕ) → multiple n (s * 2 ^ n) ⊑ whole s
unfolding multiple whole
whole_above n s = record { cross = omega arith }

pub root_at_least : (k n s : ℕ) (x : Fraction) → power (whole s) (suc k) ⊑ x → whole s ⊑ root_below (suc k) n x
root_at_least k n s x h =
    whole_below n s ⟫ root_below_greatest k n x (s * 2 ^ n) (power_mono (suc k) (whole_above n s) ⟫ h)

pub root_at_most : (k n s : ℕ) (x : Fraction) → x ⊑ power (whole s) (suc k) → root_above (suc k) n x ⊑ whole s
root_at_most k n s x h =
    root_above_least k n x (s * 2 ^ n) (h ⟫ power_mono (suc k) (whole_below n s)) ⟫ whole_above n s

-- ---- a root is above 0 from depth 8 on, where what it is taken of is at least the power of 1/256
unfoldable pub one_256th : Fraction
one_256th = record { num = 1; den = 256; den_above_0 = lit< tt }

least_multiple : (n : ℕ) → 8 ≤ n → multiple n 1 ⊑ one_256th
unfolding multiple one_256th
least_multiple n deep = record { cross = omega (arith, pow-le-pow_right {n = 2} (lit< tt) deep) }

multiple_above_0 : (n : ℕ) → zero < (multiple n 1).num
unfolding multiple
multiple_above_0 n = lit< tt

pub root_above_0 : (k n : ℕ) → 8 ≤ n → (x : Fraction) → power one_256th (suc k) ⊑ x → zero < (root_below (suc k) n x).num
root_above_0 k n deep x h =
    above_from (multiple_above_0 n) (root_below_greatest k n x 1 (power_mono (suc k) (least_multiple n deep) ⟫ h))
