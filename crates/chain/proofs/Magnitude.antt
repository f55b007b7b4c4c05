-- The magnitude of a signed number of 32 bits, read back from its bits: of -(n+1), n+1 is written as 0-(-n), which fits, and 1.
-- Assumes nothing.
use mathlib.Core.Path.{◌≡◌, refl, sym, ap, subst, ◌∙◌}
use mathlib.Core.Bool.{true, false}
use Prim.Native.Nat.{ℕ, zero, suc, ◌+◌, ◌≤◌}
use native.Mathlib.Nat.{lt_of_le_of_lt, le_refl}
use native.Mathlib.Numerals.{add-one}
use native.Mathlib.Omega.{arith}
use lib.IntN.{ℤ, pos, negsuc, neg_ℤ, nat_abs, ◌+ℤ◌, ◌-ℤ◌, +ℤ_one, +ℤ_idl, neg_ℤ-neg_ℤ}
use lib.Dec.{T, lit<}
use lib.Signed.{lt_z, le_z, non_neg, mag, nat_abs-le}
use mir.Syntax.{w32}
use mir.Val.{Fits, SFits, to_z, of_z}
use mir.ValLaws.{half_full, to_z-of_z}
use borrow.Author.Tests.{ltb-true, le-leb}

-- what is read back from the bits of a number
abbrev pub read : ℤ → ℤ
read z = to_z w32 (of_z w32 z)

below_0 : (z : ℤ) → lt_z z (pos 0) ≡ true → z ≡ negsuc (mag z)
below_0 (pos n) t = let h = ltb-true n 0 t in absurd (omega arith)
below_0 (negsuc n) t = refl

not_below_0 : (z : ℤ) → lt_z z (pos 0) ≡ false → T (non_neg z)
not_below_0 (pos n) t = tt
not_below_0 (negsuc n) t = absurd (subst T t tt)

pub at_least_0 : (z : ℤ) → le_z (pos 0) z ≡ non_neg z
at_least_0 (pos n) = le-leb 0 n (omega arith)
at_least_0 (negsuc n) = refl

plus_1 : (n : ℕ) → negsuc n +ℤ pos 1 ≡ neg_ℤ (pos n)
plus_1 zero = +ℤ_one (negsuc zero)
plus_1 (suc n) = +ℤ_one (negsuc (suc n))

mag_neg : (n : ℕ) → mag (neg_ℤ (pos n)) ≤ n
mag_neg zero = le_refl zero
mag_neg (suc n) = omega arith

module _ (z : ℤ) (f : SFits w32 z) where
  -- z + 1, 0 - (z + 1) and its reading, of a negative z
  module _ (t : lt_z (read z) (pos 0) ≡ true) where
    negative : z ≡ negsuc (mag z)
    negative = below_0 z (ap (λ (y : ℤ). lt_z y (pos 0)) (sym (to_z-of_z w32 z f)) ∙ t)

    raised : read z +ℤ pos 1 ≡ neg_ℤ (pos (mag z))
    raised = ap (λ (y : ℤ). y +ℤ pos 1) (to_z-of_z w32 z f ∙ negative) ∙ plus_1 (mag z)

    pub raised_fits : SFits w32 (read z +ℤ pos 1)
    raised_fits = subst (SFits w32) (sym raised) (record { sfits = lt_of_le_of_lt (mag_neg (mag z)) f.sfits })

    turned : pos 0 -ℤ read (read z +ℤ pos 1) ≡ pos (mag z)
    turned = ap (λ (y : ℤ). pos 0 -ℤ y) (to_z-of_z w32 _ raised_fits ∙ raised) ∙ +ℤ_idl _ ∙ neg_ℤ-neg_ℤ (pos (mag z))

    pub turned_fits : SFits w32 (pos 0 -ℤ read (read z +ℤ pos 1))
    turned_fits = subst (SFits w32) (sym turned) (record { sfits = f.sfits })

    rest : read (pos 0 -ℤ read (read z +ℤ pos 1)) ≡ pos (mag z)
    rest = to_z-of_z w32 _ turned_fits ∙ turned

    abbrev rest_of : ℤ
    rest_of = read (pos 0 -ℤ read (read z +ℤ pos 1))

    pub cast_fits : T (non_neg rest_of) × Fits w32 (nat_abs rest_of)
    cast_fits = subst (λ (y : ℤ). T (non_neg y) × Fits w32 (nat_abs y)) (sym rest) (tt, record { fits = half_full w32 f.sfits })

    pub sum_fits : Fits w32 (nat_abs rest_of + 1)
    sum_fits = subst (λ (y : ℤ). Fits w32 (nat_abs y + 1)) (sym rest) (record { fits = omega (arith, f.sfits) })

    pub magnitude_below : nat_abs rest_of + 1 ≡ nat_abs z
    magnitude_below = ap (λ (y : ℤ). nat_abs y + 1) rest ∙ add-one _ ∙ sym (ap nat_abs negative)

  -- z itself, from 0 up
  pub cast_fits_above : lt_z (read z) (pos 0) ≡ false → T (non_neg (read z)) × Fits w32 (nat_abs (read z))
  cast_fits_above t =
      let small : Fits w32 (nat_abs z) = record { fits = lt_of_le_of_lt (nat_abs-le z f.sfits) (lit< tt) } in
      (not_below_0 (read z) t, subst (λ (y : ℤ). Fits w32 (nat_abs y)) (sym (to_z-of_z w32 z f)) small)

  pub from_0_up : le_z (pos 0) (read z) ≡ non_neg z
  from_0_up = ap (le_z (pos 0)) (to_z-of_z w32 z f) ∙ at_least_0 z
