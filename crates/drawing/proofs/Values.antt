-- Floats that have a value: that of a whole number has it, a float sum and a half are exact for these sizes, and floats are in the
-- order of their values. By the kit's law of a rounding that changes nothing. Assumes nothing.
use mathlib.Core.Path.{◌≡◌, refl, sym, ap, ◌∙◌, subst}
use mathlib.Core.Bool.{true, false, true≢false}
use Prim.Native.Nat.{ℕ, ◌+◌, ◌*◌, ◌^◌, ◌≤◌, ◌<◌}
use native.Mathlib.Nat.{lt_of_lt_of_le, mul-pos, mul-one, mul_assoc, mul_comm, mul_left_comm, add-mul, pow-suc}
use native.Mathlib.Omega.{arith}
use lib.Dec.{lit≤, lit<}
use lib.Pow.{pow_mono, shl_lt}
use lib.IntN.{pos}
use lib.Ieee.{Float, nan, inf, fin, binary64, up, down, round, of_int, add, div, sum}
use lib.Ieee.Bits.{is_true}
use lib.Ieee.Exact.{HasValue, round_exact}
use lib.Ieee.Fits.{down_pos}
use lib.Ieee.Back.{round_whole}
use lib.Ieee.Scale.{round_same}
use lib.Ieee.Order.{le_of_values}
use Rattle.drawing.specs.Floats.{float, middle, Value, plain}
use Rattle.drawing.specs.Claims.{limit, Exact, Between}

-- ---- the definition of a value, and the kit's with no sign, say the same
of_kit : (x : Float) (n d : ℕ) → HasValue x false n d → Value x n d
of_kit nan n d v = v
of_kit (inf s) n d v = v
of_kit (fin s m e) n d v = v

pub plain_value : (x : Float) (n d : ℕ) → HasValue x false n d → plain x ≡ true
plain_value nan n d v = absurd v
plain_value (inf s) n d v = absurd v
plain_value (fin true m e) n d v = absurd (true≢false v.0)
plain_value (fin false m e) n d v = refl

-- ---- one operation
-- Every whole number up to 2^53 is a float.
pub float_value : (n : ℕ) → n ≤ 2 ^ 53 → HasValue (float n) false n 1
unfolding float of_int
float_value n h = round_whole binary64 false n h

-- a/c and b/d are the two floats' own fractions x/p and y/q: so is their sum
same_sum : (x y p q a b c d : ℕ) → x * c ≡ a * p → y * d ≡ b * q → (x * q + y * p) * (c * d) ≡ (a * d + b * c) * (p * q)
same_sum x y p q a b c d e f =
    let left : x * q * (c * d) ≡ a * d * (p * q) = simp (mul_assoc, mul_comm, mul_left_comm) (simp (mul_assoc, mul_comm, mul_left_comm) at (ap (λ (z : ℕ). z * (q * d)) e)) in
    let right : y * p * (c * d) ≡ b * c * (p * q) = simp (mul_assoc, mul_comm, mul_left_comm) (simp (mul_assoc, mul_comm, mul_left_comm) at (ap (λ (z : ℕ). z * (p * c)) f)) in
    rw (add-mul (x * q) (y * p) (c * d), add-mul (a * d) (b * c) (p * q), left, right)

-- A float sum is the rounded sum of the two fractions.
sum_rounded :
    (x y : Float) (a b c d : ℕ) → 0 < c → 0 < d → HasValue x false a c → HasValue y false b d
    → add binary64 x y ≡ round binary64 false (a * d + b * c) (c * d)
unfolding add sum
sum_rounded nan y a b c d C D v w = absurd v
sum_rounded (inf s) y a b c d C D v w = absurd v
sum_rounded (fin true m e) y a b c d C D v w = absurd (true≢false v.0)
sum_rounded (fin false m e) nan a b c d C D v w = absurd w
sum_rounded (fin false m e) (inf t) a b c d C D v w = absurd w
sum_rounded (fin false m e) (fin true n k) a b c d C D v w = absurd (true≢false w.0)
sum_rounded (fin false m e) (fin false n k) a b c d C D v w =
    round_same binary64 false (m * up e * down k + n * up k * down e) (down e * down k) (a * d + b * c) (c * d)
    (mul-pos (down_pos e) (down_pos k)) (mul-pos C D)
    (same_sum (m * up e) (n * up k) (down e) (down k) a b c d v.1 w.1)

-- A half of a whole number below 2^53 has one binary digit after the point at most.
rounded_half : (n : ℕ) → n < 2 ^ 53 → HasValue (round binary64 false n 2) false n 2
rounded_half n h =
    round_exact binary64 false n 2 n 1073 (lit< tt) h
    (lt_of_lt_of_le (shl_lt 53 1073 h) (pow_mono {i = 1126} {j = 2098} (lit≤ tt)))
    (ap (λ (z : ℕ). n * z) (pow-suc 2 1073) ∙ sym (mul_assoc n (2 ^ 1073) 2))

two_is : float 2 ≡ fin false 1 (pos 1)
unfolding float of_int
two_is = refl

halved : (x : Float) (n : ℕ) → n < 2 ^ 53 → HasValue x false n 1 → HasValue (div binary64 x (float 2)) false n 2
unfolding div
halved nan n h v = absurd v
halved (inf s) n h v = absurd v
halved (fin true m e) n h v = absurd (true≢false v.0)
halved (fin false m e) n h v =
    let same : m * up e * 1 * 2 ≡ n * (1 * 2 ^ 1 * down e) = ap (λ (z : ℕ). z * 2) v.1 ∙ mul_assoc n (down e) 2 ∙ ap (λ (z : ℕ). n * z) (mul_comm (down e) 2) in
    rw two_is
    (subst (λ (y : Float). HasValue y false n 2)
    (sym (round_same binary64 false (m * up e * 1) (1 * 2 ^ 1 * down e) n 2 (mul-pos (lit< tt) (down_pos e)) (lit< tt) same))
    (rounded_half n h))

-- ---- two whole numbers below 2^33
module _ (a b : ℕ) (a_small : a < limit) (b_small : b < limit) where
  low_value : HasValue (float a) false a 1
  low_value = float_value a (omega arith)

  high_value : HasValue (float b) false b 1
  high_value = float_value b (omega arith)

  float_sum : add binary64 (float a) (float b) ≡ float (a + b)
  unfolding float of_int
  float_sum = sum_rounded (float a) (float b) a b 1 1 (lit< tt) (lit< tt) low_value high_value ∙ simp mul-one

  half_value : HasValue (middle (float a) (float b)) false (a + b) 2
  unfolding middle
  half_value = rw float_sum (halved (float (a + b)) (a + b) (omega arith) (float_value (a + b) (omega arith)))

  pub exact : Exact a b
  exact =
      record {
        low = of_kit (float a) a 1 low_value;
        high = of_kit (float b) b 1 high_value;
        sum = float_sum;
        half = of_kit (middle (float a) (float b)) (a + b) 2 half_value;
      }

  pub group_plain : (plain (float a) ≡ true) × (plain (middle (float a) (float b)) ≡ true) × (plain (float b) ≡ true)
  group_plain = (plain_value (float a) a 1 low_value, plain_value (middle (float a) (float b)) (a + b) 2 half_value, plain_value (float b) b 1 high_value)

  -- Half the sum lies between the two, and twice the half is the sum.
  pub between : a ≤ b → Between (record { low = float a; middle = middle (float a) (float b); high = float b })
  between h =
      let m = middle (float a) (float b) in
      let doubled : round binary64 false ((a + b) * 2 + (a + b) * 2) (2 * 2) ≡ round binary64 false (a * 1 + b * 1) (1 * 1) = round_same binary64 false _ _ _ _ (lit< tt) (lit< tt) (omega arith) in
      record {
        from_low = is_true _ (le_of_values (float a) m a 1 (a + b) 2 (lit< tt) (lit< tt) low_value half_value (omega arith));
        to_high = is_true _ (le_of_values m (float b) (a + b) 2 b 1 (lit< tt) (lit< tt) half_value high_value (omega arith));
        twice =
            sum_rounded m m (a + b) (a + b) 2 2 (lit< tt) (lit< tt) half_value half_value
            ∙ doubled
            ∙ sym (sum_rounded (float a) (float b) a b 1 1 (lit< tt) (lit< tt) low_value high_value);
      }
