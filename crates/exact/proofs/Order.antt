-- The order of fractions, and how sums, differences, products, quotients and powers keep it.
-- Each law is one of cross products, multiplied out and sorted. Assumes nothing.
use mathlib.Core.Logic.{◌⊎◌, inl, inr}
use Prim.Native.Nat.{ℕ, zero, suc, pred, ◌*◌, ◌-◌, ◌≤◌, ◌<◌, zero-le}
use native.Mathlib.Nat.{add_assoc, add_comm, add_left_comm, le-add_right, le-add_left, mul_assoc, mul_comm, mul_left_comm, mul-le-mul, mul-le-mul_left, mul-le-mul_right, le_of_mul-le-mul_right, mul-pos, add-mul, mul-add, add-le-add, le_trans, le_refl, suc-pred-eq_of_pos, mul-sub, lt_of_not-le, not-le_of_lt, eq-zero-or-pos, not-suc-le-zero, zero-mul, mul-one, one-mul, le_of_lt, lt_of_le_of_lt, mul-lt-mul_of_pos_right}
use native.Mathlib.Decide.{dec_le}
use native.Mathlib.Omega.{arith}
use lib.Dec.{T, lit<, leb→le, le→leb}
use Rattle.exact.specs.Fraction.{Fraction, ◌⊑◌, at_most, whole, ◌⊕◌, ◌⊖◌, ◌⊗◌, ◌⊘◌, power}

ruleset sorted = (mul_assoc, mul_comm, mul_left_comm)

ruleset multiplied_out = (add-mul, mul-add, sorted, add_assoc, add_comm, add_left_comm)

infixr 45 ◌⟫◌
pub ◌⟫◌ : {x y z : Fraction} → x ⊑ y → y ⊑ z → x ⊑ z
◌⟫◌ {x} {y} {z} h k =
    record {
      cross =
          le_of_mul-le-mul_right
          (simp sorted
          (le_trans (simp sorted at (mul-le-mul_right z.den h.cross)) (simp sorted at (mul-le-mul_right x.den k.cross))))
          y.den_above_0;
    }

pub ⊑_refl : {x : Fraction} → x ⊑ x
⊑_refl = record { cross = le_refl _ }

-- ---- each operation grows or falls in each argument
pub ⊕-mono : {a b c d : Fraction} → a ⊑ b → c ⊑ d → a ⊕ c ⊑ b ⊕ d
unfolding ◌⊕◌
⊕-mono {a} {b} {c} {d} h k =
    record {
      cross =
          simp (add-mul, sorted)
          (add-le-add (simp sorted at (mul-le-mul_right (c.den * d.den) h.cross))
          (simp sorted at (mul-le-mul_right (a.den * b.den) k.cross)));
    }

less_cross : (x y k x' y' k' : ℕ) → x * k ≤ x' * k' → y' * k' ≤ y * k → (x - y) * k ≤ (x' - y') * k'
less_cross x y k x' y' k' h l =
    rw (mul_comm (x - y) k, mul_comm (x' - y') k', mul-sub k x y, mul-sub k' x' y')
    (omega (arith, mul_comm x k, mul_comm x' k', mul_comm y k, mul_comm y' k'))

pub ⊖-mono : {a b c d : Fraction} → a ⊑ b → c ⊑ d → a ⊖ d ⊑ b ⊖ c
unfolding ◌⊖◌
⊖-mono {a} {b} {c} {d} h k =
    record {
      cross =
          less_cross (a.num * d.den) (d.num * a.den) (b.den * c.den) (b.num * c.den) (c.num * b.den) (a.den * d.den)
          (simp sorted (simp sorted at (mul-le-mul_right (c.den * d.den) h.cross)))
          (simp sorted (simp sorted at (mul-le-mul_right (a.den * b.den) k.cross)));
    }

pub ⊗-mono : {a b c d : Fraction} → a ⊑ b → c ⊑ d → a ⊗ c ⊑ b ⊗ d
unfolding ◌⊗◌
⊗-mono h k = record { cross = simp sorted (simp sorted at (mul-le-mul h.cross k.cross)) }

le_suc_pred : (n : ℕ) → n ≤ suc (pred n)
le_suc_pred n = omega arith

-- The divisor of the larger side is above 0.
pub ⊘-mono : {a b c d : Fraction} → zero < c.num → a ⊑ b → c ⊑ d → a ⊘ d ⊑ b ⊘ c
unfolding ◌⊘◌
⊘-mono {a} {b} {c} {d} p h k =
    record {
      cross =
          rw (suc-pred-eq_of_pos (mul-pos b.den_above_0 p))
          (le_trans (simp sorted (simp sorted at (mul-le-mul h.cross k.cross)))
          (mul-le-mul_left (b.num * c.den) (le_suc_pred (a.den * d.num))));
    }

pub power_mono : {x y : Fraction} (k : ℕ) → x ⊑ y → power x k ⊑ power y k
unfolding power
power_mono zero h = ⊑_refl
power_mono (suc k) h = ⊗-mono (power_mono k h) h

-- ---- 0, 1 and whole numbers
pub 0_least : {x : Fraction} → whole 0 ⊑ x
unfolding whole
0_least {x} = record { cross = rw zero-mul zero-le }

pub whole_mono : {m n : ℕ} → m ≤ n → whole m ⊑ whole n
unfolding whole
whole_mono h = record { cross = mul-le-mul_right 1 h }

pub whole_above_0 : {n : ℕ} → zero < n → zero < (whole n).num
unfolding whole
whole_above_0 p = p

pub ⊗-1 : {x : Fraction} → x ⊗ whole 1 ⊑ x
unfolding ◌⊗◌ whole
⊗-1 = record { cross = simp mul-one (le_refl _) }

pub 1-⊗ : {x : Fraction} → whole 1 ⊗ x ⊑ x
unfolding ◌⊗◌ whole
1-⊗ = record { cross = simp one-mul (le_refl _) }

pub to-1-⊗ : {x : Fraction} → x ⊑ whole 1 ⊗ x
unfolding ◌⊗◌ whole
to-1-⊗ = record { cross = simp one-mul (le_refl _) }

-- What is at least a fraction above 0 is above 0.
pub above_from : {x y : Fraction} → zero < x.num → x ⊑ y → zero < y.num
above_from {x} {y} p h =
    elim (eq-zero-or-pos y.num) [
      | inl e ↦ absurd (not-suc-le-zero (le_trans (mul-pos p y.den_above_0) (rw (e, zero-mul) at h.cross)))
      | inr q ↦ q
    ]

-- x over k is at most y over j, where x ≤ y and j ≤ k.
pub over_mono : {x y : Fraction} (j k : ℕ) → zero < j → j ≤ k → x ⊑ y → x ⊘ whole k ⊑ y ⊘ whole j
over_mono j k p l h = ⊘-mono {c = whole j} (whole_above_0 p) h (whole_mono l)

over_1 : {x : Fraction} → x ⊘ whole 1 ⊑ x
unfolding ◌⊘◌ whole
over_1 {x} = record { cross = simp mul-one (mul-le-mul_left x.num (le_suc_pred x.den)) }

pub over_falls : {x : Fraction} (j : ℕ) → zero < j → x ⊘ whole j ⊑ x
over_falls j p = over_mono 1 j (lit< tt) p ⊑_refl ⟫ over_1

-- ---- sums, and differences against sums
pub ⊕-assoc : (x y z : Fraction) → x ⊕ (y ⊕ z) ⊑ x ⊕ y ⊕ z
unfolding ◌⊕◌
⊕-assoc x y z = record { cross = simp multiplied_out (le_refl _) }

pub ⊕-assoc' : (x y z : Fraction) → x ⊕ y ⊕ z ⊑ x ⊕ (y ⊕ z)
unfolding ◌⊕◌
⊕-assoc' x y z = record { cross = simp multiplied_out (le_refl _) }

pub ⊕-left : (x y : Fraction) → x ⊑ x ⊕ y
unfolding ◌⊕◌
⊕-left x y = record { cross = simp (add-mul, sorted) (le-add_right _ _) }

pub ⊕-right : (x y : Fraction) → y ⊑ x ⊕ y
unfolding ◌⊕◌
⊕-right x y = record { cross = simp (add-mul, sorted) (le-add_left _ _) }

pub ⊕-0 : {x : Fraction} → x ⊕ whole 0 ⊑ x
unfolding ◌⊕◌ whole
⊕-0 {x} = record { cross = omega (arith, mul-one x.num, mul-one x.den) }

pub ⊗-distributes : (x y z : Fraction) → x ⊗ y ⊕ x ⊗ z ⊑ x ⊗ (y ⊕ z)
unfolding ◌⊕◌ ◌⊗◌
⊗-distributes x y z = record { cross = simp multiplied_out (le_refl _) }

pub ⊖-from : {x z : Fraction} (y : Fraction) → x ⊕ y ⊑ z → x ⊑ z ⊖ y
unfolding ◌⊕◌ ◌⊖◌
⊖-from {x} {z} y h =
    record {
      cross =
          rw (mul_comm (z.num * y.den - y.num * z.den) x.den, mul-sub x.den (z.num * y.den) (y.num * z.den))
          (simp multiplied_out (omega (arith, simp multiplied_out at h.cross)));
    }

pub ⊖-to : {x z : Fraction} (y : Fraction) → x ⊑ z ⊕ y → x ⊖ y ⊑ z
unfolding ◌⊕◌ ◌⊖◌
⊖-to {x} {z} y h =
    record {
      cross =
          rw (mul_comm (x.num * y.den - y.num * x.den) z.den, mul-sub z.den (x.num * y.den) (y.num * x.den))
          (simp multiplied_out (omega (arith, simp multiplied_out at h.cross)));
    }

-- ---- the test, the strict order and the root of a power
pub at_most→ : {x y : Fraction} → T (at_most x y) → x ⊑ y
unfolding at_most
at_most→ t = record { cross = leb→le _ _ t }

pub →at_most : {x y : Fraction} → x ⊑ y → T (at_most x y)
unfolding at_most
→at_most h = le→leb _ _ h.cross

infix 50 ◌⊏◌
pub record ◌⊏◌ (x y : Fraction) : Type 0 where
  pub cross : x.num * y.den < y.num * x.den

pub ⊏→⊑ : {x y : Fraction} → x ⊏ y → x ⊑ y
⊏→⊑ h = record { cross = le_of_lt h.cross }

pub ⊏-not : {x y : Fraction} → y ⊏ x → x ⊑ y → ⊥
⊏-not s h = not-le_of_lt s.cross h.cross

pub either : (x y : Fraction) → (x ⊑ y) ⊎ (y ⊏ x)
either x y =
    elim (dec_le (x.num * y.den) (y.num * x.den)) [
      | yes p ↦ inl (record { cross = p })
      | no p ↦ inr (record { cross = lt_of_not-le p })
    ]

⊏-above-0 : {x y : Fraction} → x ⊏ y → zero < y.num
⊏-above-0 {x} {y} h =
    elim (eq-zero-or-pos y.num) [ inl e ↦ absurd (not-suc-le-zero (rw (e, zero-mul) at h.cross)) | inr p ↦ p ]

⊗-strict : {a b c d : Fraction} → a ⊏ b → c ⊑ d → zero < d.num → (a ⊗ c) ⊏ (b ⊗ d)
unfolding ◌⊗◌
⊗-strict {a} {b} {c} {d} h k p =
    record {
      cross =
          simp sorted
          (lt_of_le_of_lt (simp sorted at (mul-le-mul_left (a.num * b.den) k.cross))
          (simp sorted at (mul-lt-mul_of_pos_right h.cross (mul-pos p c.den_above_0))));
    }

1-⊗-strict : {x y : Fraction} → x ⊏ y → whole 1 ⊗ x ⊏ whole 1 ⊗ y
unfolding ◌⊗◌ whole
1-⊗-strict h = record { cross = simp one-mul h.cross }

power_strict : {x y : Fraction} (k : ℕ) → x ⊏ y → power x (suc k) ⊏ power y (suc k)
unfolding power
power_strict zero h = 1-⊗-strict h
power_strict (suc k) h = ⊗-strict (power_strict k h) (⊏→⊑ h) (⊏-above-0 h)

pub power_cancel : {x y : Fraction} (k : ℕ) → power x (suc k) ⊑ power y (suc k) → x ⊑ y
power_cancel {x} {y} k h = elim (either x y) [ inl p ↦ p | inr s ↦ absurd (⊏-not (power_strict k s) h) ]

pub power_grows : {x : Fraction} (k : ℕ) → whole 1 ⊑ x → x ⊑ power x (suc k)
unfolding power
power_grows zero h = to-1-⊗
power_grows (suc k) h = to-1-⊗ ⟫ ⊗-mono (h ⟫ power_grows k h) ⊑_refl
