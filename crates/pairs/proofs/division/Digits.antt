-- Products and long division by digits of 32 bits, as facts about numbers.
-- Assumes nothing.
use mathlib.Core.Path.{◌≡◌, sym, ap, ◌∙◌}
use Prim.Native.Nat.{ℕ, zero, suc, ◌+◌, ◌*◌, ◌-◌, ◌/◌, ◌%◌, ◌^◌, ◌≤◌, ◌<◌}
use native.Mathlib.Nat.{mul-le-mul, mul-le-mul_right, le_of_mul-le-mul_right, div-eq_of_lt-le, div-eq_of_eq-mul_left, div-lt_iff_lt-mul, sub-add_cancel, add-mul}
use native.Mathlib.Omega.{arith}
use lib.Pow.{pow-add, shl_lt}
use lib.Count.{count_leading_zeros, leading_top}

abbrev pub B : ℕ
B = 2 ^ 32

pub upper : (x : ℕ) → x < 2 ^ 64 → x / B < B
upper x h = omega arith

pub lower : (x : ℕ) → x % B < B
lower x = omega arith

-- a digit times a digit
pub digits : (x y : ℕ) → x < B → y < B → x * y ≤ (B - 1) * (B - 1)
digits x y h k = mul-le-mul {n₂ = B - 1} {m₂ = B - 1} (omega arith) (omega arith)

-- a quotient is named by what it leaves
pub quotient_is : (n q d r : ℕ) → n ≡ q * d + r → r < d → n / d ≡ q
quotient_is n q d r e h = div-eq_of_lt-le {k = q} d {m = n} (omega arith) (omega arith)

-- k times d taken off q times d
pub less_times : (q k d : ℕ) → k ≤ q → (q - k) * d + k * d ≡ q * d
less_times q k d h = sym (add-mul (q - k) k d) ∙ ap (λ (x : ℕ). x * d) (sub-add_cancel h)

-- what a trial digit q takes, in terms of the divisor's two halves
pub trial : (q v1 v0 t x : ℕ) → (q * v1 + t) * B + x + q * v0 ≡ q * (v1 * B + v0) + (t * B + x)
trial q v1 v0 t x = omega arith

-- the trial digit, by the upper half of a divisor with its top bit set
pub trial_le : (r d : ℕ) → 2 ^ 63 ≤ d → r < d → r / (d / B) ≤ B + 1
trial_le r d h k =
    let p : zero < d / B = omega arith in
    let l : r / (d / B) < B + 2 = (div-lt_iff_lt-mul {k = d / B} {x = r} {y = B + 2} p).1 (omega arith) in
    omega arith

-- a quotient digit and its rest, of a number and a divisor both scaled by s
pub unscaled : (n q d s r : ℕ) → zero < s → n * s ≡ q * (d * s) + r → r < d * s → (n ≡ q * d + r / s) × (r / s < d)
unscaled n q d s r p e h =
    let le : q * d ≤ n = le_of_mul-le-mul_right {k = s} (omega arith) p in
    let m : r ≡ (n - q * d) * s = omega (arith, less_times n (q * d) s le) in
    let k : r / s ≡ n - q * d = div-eq_of_eq-mul_left p m in
    (omega arith, (div-lt_iff_lt-mul {k = s} {x = r} {y = d} p).1 h)

-- a digit of a quotient is a digit
pub digit_lt : (h x q d r : ℕ) → h < d → x < B → h * B + x ≡ q * d + r → r < d → q < B
digit_lt h x q d r k l e s =
    rw (quotient_is (h * B + x) q d r e s) at ((div-lt_iff_lt-mul {k = d} {x = h * B + x} {y = B} (omega arith)).1 (omega arith))

-- two digits make the quotient of two words
pub two_digits : (h x1 x0 d q1 r1 q0 r0 : ℕ) → h * B + x1 ≡ q1 * d + r1 → r1 * B + x0 ≡ q0 * d + r0 → r0 < d
    → (h * 2 ^ 64 + (x1 * B + x0)) / d ≡ q1 * B + q0
two_digits h x1 x0 d q1 r1 q0 r0 e f s = quotient_is (h * 2 ^ 64 + (x1 * B + x0)) (q1 * B + q0) d r0 (omega arith) s

-- a number whose highest set bit is bit j, times the power that makes v with j
raised : (v d j s : ℕ) → s + suc j ≡ suc v → 2 ^ j ≤ d → d < 2 ^ suc j → (2 ^ v ≤ d * 2 ^ s) × (d * 2 ^ s < 2 ^ suc v)
raised v d j s e lo hi =
    let p : j + s ≡ v = omega arith in
    let q : suc j + s ≡ suc v = omega arith in (
      rw (sym (pow-add 2 j s), p) at (mul-le-mul_right (2 ^ s) lo),
      rw q at (shl_lt {a = d} (suc j) s hi),
    )

-- the leading zeros of a number of v + 1 bits, and what they scale it to
pub record Leading (v d z : ℕ) : Type 0 where
  pub within : z < suc v
  pub from : 2 ^ v ≤ d * 2 ^ z
  pub to : d * 2 ^ z < 2 ^ suc v

pub leading : (v d : ℕ) → zero < d → d < 2 ^ suc v → Leading v d (count_leading_zeros (suc v) d)
leading v d p f =
    let top = leading_top (suc v) d p f in
    let r = raised v d top.0 (count_leading_zeros (suc v) d) top.1 top.2 top.3 in
    record { within = omega (arith, top.1); from = r.0; to = r.1 }
