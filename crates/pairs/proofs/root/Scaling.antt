-- The even scaling of a radicand by its leading zero bits, and the two steps from its starting number.
-- Assumes nothing.
use mathlib.Core.Path.{◌≡◌, sym, ap, ◌∙◌}
use Prim.Native.Nat.{ℕ, zero, ◌+◌, ◌*◌, ◌/◌, ◌%◌, ◌^◌, ◌≤◌, ◌<◌}
use native.Mathlib.Nat.{mul-le-mul_left, mul_assoc, div-lt_iff_lt-mul}
use native.Mathlib.Decide.{dec_le}
use native.Mathlib.Omega.{arith}
use lib.Pow.{pow_pos, pow_mono, pow-add}
use lib.Count.{count_leading_zeros, leading_top}
use Rattle.pairs.specs.Rounded.{root_down}
use Rattle.pairs.proofs.division.Digits.{Leading}
use Rattle.pairs.proofs.Search.{root_down_passes, root_down_bound}
use Rattle.pairs.proofs.Ordered.{square_cancels}

pub quotient_lt : (n d m : ℕ) → zero < d → n < m * d → n / d < m
quotient_lt n d m p h = (div-lt_iff_lt-mul {k = d} {x = n} {y = m} p).1 h

-- two steps from the scaled starting number of a word's ten upper bits stay within 36 bits
pub record Steps (w r : ℕ) : Type 0 where
  pub least : 4096 ≤ r
  pub most : r ≤ 8191
  pub quotient : w / (r * 524_288) < 2 ^ 33
  pub second : 2 ^ 30 ≤ (r * 524_288 + w / (r * 524_288)) / 2
  pub quotient_2 : w / ((r * 524_288 + w / (r * 524_288)) / 2) < 2 ^ 34

pub steps : (w r : ℕ) → 2 ^ 62 ≤ w → w < 2 ^ 64 → r ≡ root_down (65_536 * (w / 2 ^ 54)) → Steps w r
steps w r h f e =
    let n = 65_536 * (w / 2 ^ 54) in
    let l : r * r ≤ n = rw e (root_down_passes n) in
    let least : 4096 ≤ r = rw e (root_down_bound n 4096 (omega arith)) in
    let second : 2 ^ 30 ≤ (r * 524_288 + w / (r * 524_288)) / 2 = omega arith in
    record {
      least = least;
      most = square_cancels r 8191 (omega arith);
      quotient = quotient_lt w (r * 524_288) (2 ^ 33) (omega arith) (omega arith);
      second = second;
      quotient_2 = quotient_lt w ((r * 524_288 + w / (r * 524_288)) / 2) (2 ^ 34) (omega arith) (omega arith);
    }

-- a number shifted by an even number of its leading zeros keeps one of its two upper bits set
pub record Evened (n z : ℕ) : Type 0 where
  pub within : 2 * (z / 2) < 128
  pub whole : n * 2 ^ (2 * (z / 2)) < 2 ^ 128
  pub least : 2 ^ 126 ≤ n * 2 ^ (2 * (z / 2))

pub evened : (n z : ℕ) → Leading 127 n z → Evened n z
evened n z h =
    let e : n * 2 ^ z ≡ n * 2 ^ (2 * (z / 2)) * 2 ^ (z % 2) =
    ap (λ (k : ℕ). n * 2 ^ k) parted ∙ ap (λ (x : ℕ). n * x) (pow-add 2 (2 * (z / 2)) (z % 2)) ∙ sym (mul_assoc n (2 ^ (2 * (z / 2))) (2 ^ (z % 2))) in
    let p : 2 ^ (z % 2) ≤ 2 ^ 1 = pow_mono {i = z % 2} {j = 1} (omega arith) in
    let x = n * 2 ^ (2 * (z / 2)) in
    record {
      within = omega (arith, h.within);
      whole = omega (arith, h.to, e, mul-le-mul_left x (pow_pos (z % 2)));
      least = omega (arith, h.from, e, mul-le-mul_left x p);
    }
  where
    parted : z ≡ 2 * (z / 2) + z % 2
    parted = omega arith

-- a number of at most 104 bits has 24 leading zeros or more
zeros_ge : (d : ℕ) → zero < d → d < 2 ^ 104 → 24 ≤ count_leading_zeros 128 d
zeros_ge d p f =
    let top = leading_top 128 d p (omega arith) in
    elim (dec_le 104 top.0) [
      | yes h ↦ absurd (contrary d (2 ^ top.0) f (pow_mono {i = 104} {j = top.0} h) top.2)
      | no h ↦ omega (arith, top.1)
    ]
  where
    contrary : (d x : ℕ) → d < 2 ^ 104 → 2 ^ 104 ≤ x → x ≤ d → ⊥
    contrary d x a b e = omega arith

-- the start of a root of at most 52 bits, shifted to its place, stays below 2^63
shifted : (x z : ℕ) → x < 2 ^ 36 → 24 ≤ z → x * 2 ^ 32 / 2 ^ (z / 2) < 2 ^ 63
shifted x z h k =
    let p : 2 ^ 12 ≤ 2 ^ (z / 2) = pow_mono {i = 12} {j = z / 2} (omega arith) in
    quotient_lt (x * 2 ^ 32) (2 ^ (z / 2)) (2 ^ 63) (pow_pos (z / 2)) (omega arith)

pub start_lt : (n x y : ℕ) → zero < n → n < 2 ^ 104 → x < 2 ^ 36 → y ≡ x → y * 2 ^ 32 % 2 ^ 128 / 2 ^ (count_leading_zeros 128 n / 2) < 2 ^ 63
start_lt n x y p f h e =
    let whole : y * 2 ^ 32 % 2 ^ 128 ≡ x * 2 ^ 32 = omega arith in
    rw whole (shifted x (count_leading_zeros 128 n) h (zeros_ge n p f))
