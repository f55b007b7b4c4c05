-- Document 01, "Depth n": "each fraction a whole number over a whole number above 0, compared by their cross products".
use Rattle.std.specs.Prelude.{ℕ, zero, suc, pred, ◌+◌, ◌*◌, ◌-◌, ◌≤◌, ◌<◌, Bool, leb, ltb}
use Rattle.std.proofs.Common.{mul-pos, zero-lt-suc}

pub record Fraction : Type 0 where
  pub num : ℕ
  pub den : ℕ
  pub den_above_0 : zero < den

infix 50 ◌⊑◌
infixl 65 ◌⊕◌ ◌⊖◌
infixl 70 ◌⊗◌ ◌⊘◌
-- x is at most y.
pub record ◌⊑◌ (x y : Fraction) : Type 0 where
  pub cross : x.num * y.den ≤ y.num * x.den

-- The same as a test; and whether x is above 0.
unfoldable pub at_most : Fraction → Fraction → Bool
at_most x y = leb (x.num * y.den) (y.num * x.den)

unfoldable pub above_0 : Fraction → Bool
above_0 x = ltb 0 x.num

unfoldable pub whole : ℕ → Fraction
whole n = record { num = n; den = 1; den_above_0 = zero-lt-suc 0 }

unfoldable pub ◌⊕◌ : Fraction → Fraction → Fraction
x ⊕ y =
    record {
      num = x.num * y.den + y.num * x.den;
      den = x.den * y.den;
      den_above_0 = mul-pos x.den_above_0 y.den_above_0;
    }

-- x less y, raised to 0 where below it.
unfoldable pub ◌⊖◌ : Fraction → Fraction → Fraction
x ⊖ y =
    record {
      num = x.num * y.den - y.num * x.den;
      den = x.den * y.den;
      den_above_0 = mul-pos x.den_above_0 y.den_above_0;
    }

unfoldable pub ◌⊗◌ : Fraction → Fraction → Fraction
x ⊗ y =
    record { num = x.num * y.num; den = x.den * y.den; den_above_0 = mul-pos x.den_above_0 y.den_above_0 }

-- x over y, where y is above 0: then suc (pred d) is d. A division by 0 is noted in the bracket (Depth.antt).
unfoldable pub ◌⊘◌ : Fraction → Fraction → Fraction
x ⊘ y = record { num = x.num * y.den; den = suc (pred (x.den * y.num)); den_above_0 = zero-lt-suc _ }

-- The product of k factors x.
unfoldable pub power : Fraction → ℕ → Fraction
power x zero = whole 1
power x (suc k) = power x k ⊗ x
