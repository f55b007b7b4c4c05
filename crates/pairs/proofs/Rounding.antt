-- A quotient rounded down and rounded up: what each covers, and that both grow with the number and fall with the divisor.
-- By the law of division with rest. Assumes nothing.
use mathlib.Core.Path.{◌≡◌, refl, sym}
use Prim.Native.Nat.{ℕ, zero, suc, ◌+◌, ◌*◌, ◌-◌, ◌/◌, ◌%◌, ◌^◌, ◌≤◌, ◌<◌, min, zero-le}
use native.Mathlib.Nat.{le_trans, mul-le-mul_left, mul-le-mul_right, le_of_mul-le-mul_right, mod-lt, div-add-mod', div-lt_iff_lt-mul, le-div_iff_mul-le, div-mul-le_self, lt-div-mul-add, div-eq_of_lt-le, suc-mul, div-zero, zero-lt-suc}
use native.Mathlib.Omega.{arith}
use Rattle.std.proofs.lemmas.Grind.{div_ceil_times}
use Rattle.pairs.specs.Rounded.{down, up}

pub up_by : (n d : ℕ) → (n + (d - 1)) / d ≡ up n d
unfolding up
up_by n d = refl

pub up_covers : (n d : ℕ) → zero < d → n ≤ up n d * d
unfolding up
up_covers n d p = omega (arith, div-add-mod' (n + (d - 1)) d, mod-lt (n + (d - 1)) p)

pub up_least : (n d k : ℕ) → zero < d → n ≤ k * d → up n d ≤ k
unfolding up
up_least n d k p h = within ((div-lt_iff_lt-mul p).1 (omega (arith, suc-mul k d)))
  where
    within : {x y : ℕ} → x < suc y → x ≤ y
    within q = omega arith

pub down_covers : (n d : ℕ) → zero < d → n < down n d * d + d
unfolding down
down_covers n d p = lt-div-mul-add p

pub down_within : (n d : ℕ) → down n d * d ≤ n
unfolding down
down_within n d = div-mul-le_self n d

pub down_greatest : (n d k : ℕ) → zero < d → k * d ≤ n → k ≤ down n d
unfolding down
down_greatest n d k p h = (le-div_iff_mul-le p).1 h

pub up_grows : {n n' d d' : ℕ} → zero < d' → d' ≤ d → n ≤ n' → up n d ≤ up n' d'
up_grows {n} {n'} {d} {d'} p l h =
    up_least n d (up n' d') (le_trans p l) (le_trans h (le_trans (up_covers n' d' p) (mul-le-mul_left (up n' d') l)))

pub down_grows : {n n' d d' : ℕ} → zero < d → d ≤ d' → n ≤ n' → down n d' ≤ down n' d
down_grows {n} {n'} {d} {d'} p l h =
    down_greatest n' d (down n d') p (le_trans (mul-le-mul_left (down n d') l) (le_trans (down_within n d') h))

pub down_below_up : (n d : ℕ) → down n d ≤ up n d
unfolding down
down_below_up n zero = rw div-zero zero-le
down_below_up n (suc d) =
    le_of_mul-le-mul_right (le_trans (div-mul-le_self n (suc d)) (up_covers n (suc d) (zero-lt-suc d))) (zero-lt-suc d)

-- over a whole number, rounded up, is no more than the number
pub up_le : (b n : ℕ) → zero < n → up b n ≤ b
up_le b n p = up_least b n b p (omega (arith, mul-le-mul_left b p))

by_quotient : (n d q : ℕ) → zero < d → n ≤ q * d → q * d < n + d → q ≡ up n d
unfolding up
by_quotient n d q p h k = sym (div-eq_of_lt-le {k = q} d {m = n + (d - 1)} (omega arith) (omega (arith, suc-mul q d)))

-- the library's quotient rounded up
pub up_of_ceil : (n d : ℕ) → zero < d → n / d + min 1 (n % d) ≡ up n d
up_of_ceil n d p = let t = div_ceil_times n d p in by_quotient n d (n / d + min 1 (n % d)) p t.0 t.1

-- a quotient of b·U rounded up by c has one word where the upper word of what is divided is below c
pub word_from : (b c : ℕ) → zero < c → c ≤ (b + (c - 1)) / 2 ^ 64 → 2 ^ 64 ≤ up b c
unfolding up
word_from b c z h = (le-div_iff_mul-le {k = c} {x = 2 ^ 64} {y = b + (c - 1)} z).1 (omega arith)

pub word_below : (b c : ℕ) → zero < c → (b + (c - 1)) / 2 ^ 64 < c → up b c < 2 ^ 64
unfolding up
word_below b c z h = (div-lt_iff_lt-mul {k = c} {x = b + (c - 1)} {y = 2 ^ 64} z).1 (omega arith)

-- a multiple of a smaller number is no larger
pub multiple_le : (a b n : ℕ) → a ≤ b → a * n ≤ b * n
multiple_le a b n h = mul-le-mul_right n h
