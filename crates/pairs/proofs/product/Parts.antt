-- The rounded product by parts: by base 10^6 for numbers of at most 1, and by units and fractions for any.
-- Assumes nothing.
use mathlib.Core.Path.{◌≡◌, refl, sym, ap, ap₂, ◌∙◌}
use Prim.Native.Nat.{ℕ, ◌+◌, ◌*◌, ◌/◌, ◌%◌, ◌^◌, ◌≤◌, ◌<◌}
use native.Mathlib.Nat.{mul-le-mul, lt_of_le_of_lt, div-add-mod', add-zero}
use native.Mathlib.Omega.{arith}
use Rattle.pairs.specs.declared.product.Rounding.{Rounding}
use Rattle.pairs.specs.declared.product.Rounding.TheVariants.{Down, Up}
use Rattle.pairs.specs.Rounded.{U, down, up}
use Rattle.pairs.specs.Private.{extra_of, carried}

abbrev pub M : ℕ
M = 1_000_000

pub carried_is : (r : Rounding) (n : ℕ) → carried r n ≡ (n + extra_of r * 1_000_001) / U
unfolding down up
carried_is Down n = ap (λ (x : ℕ). x / U) (sym (add-zero n))
carried_is Up n = refl

-- a·c, with c by base 10^6
by_base : (a c : ℕ) → a * (c / M) * M + a * (c % M) ≡ a * c
by_base a c = split a (c / M) (c % M) ∙ ap (λ (x : ℕ). a * x) (div-add-mod' c M)
  where
    split : (a q r : ℕ) → a * q * M + a * r ≡ a * (q * M + r)
    split a q r = omega arith

nested : (x y e : ℕ) → (x + (y + e) / M + e) / M ≡ (x * M + y + e * 1_000_001) / U
nested x y e = omega arith

pub fraction_is : (r : Rounding) (a c : ℕ) → (a * (c / M) + (a * (c % M) + extra_of r) / M + extra_of r) / M ≡ carried r (a * c)
fraction_is r a c =
    nested (a * (c / M)) (a * (c % M)) (extra_of r) ∙ ap (λ (x : ℕ). (x + extra_of r * 1_000_001) / U) (by_base a c)
    ∙ sym (carried_is r (a * c))

-- a·c by units and fractions
expanded : (a1 a0 c1 c0 : ℕ) → (a1 * U + a0) * (c1 * U + c0) ≡ (a1 * c1 * U + a1 * c0 + a0 * c1) * U + a0 * c0
expanded a1 a0 c1 c0 = omega arith

whole_out : (w z e : ℕ) → (w * U + z + e) / U ≡ w + (z + e) / U
whole_out w z e = omega arith

pub parts : (r : Rounding) (a c : ℕ) → carried r (a * c) ≡ a / U * (c / U) * U + a / U * (c % U) + a % U * (c / U) + carried r (a % U * (c % U))
parts r a c =
    carried_is r (a * c)
    ∙ ap (λ (x : ℕ). (x + extra_of r * 1_000_001) / U)
    (ap₂ (λ (x y : ℕ). x * y) (sym (div-add-mod' a U)) (sym (div-add-mod' c U)) ∙ expanded (a / U) (a % U) (c / U) (c % U))
    ∙ whole_out (a / U * (c / U) * U + a / U * (c % U) + a % U * (c / U)) (a % U * (c % U)) (extra_of r * 1_000_001)
    ∙ ap (λ (x : ℕ). a / U * (c / U) * U + a / U * (c % U) + a % U * (c / U) + x) (sym (carried_is r (a % U * (c % U))))

-- a smaller product, rounded down, is no larger than a larger one, rounded up
pub carried_mono : (m n : ℕ) → m ≤ n → carried Down m ≤ carried Up n
unfolding down up
carried_mono m n h = omega arith

-- each product is at most that of a larger number, rounded up, and at least that of a smaller one, rounded down
pub carried_at_most : (r : Rounding) {m n : ℕ} → m ≤ n → carried r m ≤ up n U
unfolding up
carried_at_most Down h = carried_mono _ _ h
carried_at_most Up h = omega arith

pub carried_at_least : (r : Rounding) {m n : ℕ} → m ≤ n → down m U ≤ carried r n
unfolding down
carried_at_least Down h = omega arith
carried_at_least Up h = carried_mono _ _ h

-- a low end fits where the high end does
pub low_fits : (a b c d : ℕ) → a ≤ b → c ≤ d → up (b * d) U < 2 ^ 64 → down (a * c) U < 2 ^ 64
low_fits a b c d h k f = lt_of_le_of_lt (carried_mono _ _ (mul-le-mul h k)) f
