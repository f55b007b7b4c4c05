-- Newton's step for the root never falls below it, falls from any number above it, and stops only at it.
-- Assumes nothing.
use mathlib.Core.Path.{◌≡◌, sym}
use Prim.Native.Nat.{ℕ, zero, suc, ◌+◌, ◌*◌, ◌-◌, ◌/◌, ◌^◌, ◌≤◌, ◌<◌}
use native.Mathlib.Nat.{mul-le-mul, mul-le-mul_left, mul_comm, lt_of_lt_of_le, div-lt_iff_lt-mul, lt-div-mul-add}
use native.Mathlib.Decide.{dec_le, dec_lt}
use native.Mathlib.Omega.{arith}
use Rattle.pairs.specs.Rounded.{root_down}
use Rattle.pairs.proofs.Search.{root_down_is}

-- of two numbers with a given sum the product is largest where they are equal
level : (x d y : ℕ) → y ≤ x + d + d → x * y ≤ (x + d) * (x + d)
level x d y h = omega (arith, mul-le-mul_left x h)

mean_square : (x y m : ℕ) → x + y ≤ m + m → x * y ≤ m * m
mean_square x y m h =
    elim (dec_le x m) [
      | yes k ↦ rw (together x m k) at (level x (m - x) y (omega arith))
      | no k ↦ rw (mul_comm y x, together y m (omega arith)) at (level y (m - y) x (omega arith))
    ]
  where
    together : (a b : ℕ) → a ≤ b → a + (b - a) ≡ b
    together a b k = omega arith

pub above_root : (n s : ℕ) → zero < s → n < ((s + n / s) / 2 + 1) * ((s + n / s) / 2 + 1)
above_root n s p =
    lt_of_lt_of_le (omega (arith, lt-div-mul-add {a = n} {b = s} p))
    (mean_square s (n / s + 1) ((s + n / s) / 2 + 1) (omega arith))

pub falls : (n s : ℕ) → zero < s → n < s * s → (s + n / s) / 2 < s
falls n s p h = let k : n / s < s = (div-lt_iff_lt-mul {k = s} {x = n} {y = s} p).1 h in omega arith

-- from a number that is not below the root, the quotient is at most 2^63
fits : (n s : ℕ) → n < 2 ^ 104 → n < (s + 1) * (s + 1) → n ≤ s * 2 ^ 63
fits n zero f h = omega arith
fits n (suc s) f h =
    elim (dec_lt (suc s) (2 ^ 61)) [
      | yes k ↦ omega (arith, mul-le-mul {n₁ = suc s + 1} {m₁ = suc s + 1} {n₂ = 2 * suc s} {m₂ = 2 ^ 62} (omega arith) (omega arith))
      | no k ↦ omega arith
    ]

pub reached : (n s : ℕ) → s * s ≤ n → n < (s + 1) * (s + 1) → s ≡ root_down n
reached n s h k = sym (root_down_is n s h (omega arith))

-- what one step from s keeps, of a radicand n
pub record Holds (n s : ℕ) : Type 0 where
  pub root_below : n < (s + 1) * (s + 1)
  pub quotient : n ≤ s * 2 ^ 63
  pub short : s < 2 ^ 63

pub stepped : (n s r : ℕ) → n < 2 ^ 104 → zero < s → (r ≡ (s + n / s) / 2) × (r < 2 ^ 63) → Holds n r
stepped n s r f p e =
    let below : n < (r + 1) * (r + 1) = rw e.0 (above_root n s p) in
    record { root_below = below; quotient = fits n r f below; short = e.1 }

-- what has a square above another number is not 0
pub above_0 : (n s : ℕ) → n < s * s → zero < s
above_0 n zero h = absurd (omega arith)
above_0 n (suc s) h = omega arith
