-- An arithmetic of bounds: a least low end, a most high end, a width, and whether nothing can refuse.
-- A root is guessed by Newton and the guess is tested, so nothing is asked of the guess. Assumes nothing.
use mathlib.Core.Bool.{Bool, true, false, ◌&&◌}
use Prim.Native.Nat.{ℕ, zero, suc, ◌+◌, ◌*◌, ◌-◌, ◌/◌, ◌^◌, max}
use lib.Dec.{leb, ltb}
use Rattle.pairs.specs.Arithmetic.{Arithmetic}
use Rattle.pairs.specs.Rounded.{U, cold_pair, down, up, fifth_power_up, fifth_power_down}
use Rattle.pairs.proofs.FifthPower.{U⁴, slope, loss}
use Rattle.chain.specs.Chain.{most_exposed}
use Rattle.chain.proofs.Hypotenuse.{slack}

pub record Bound : Type 0 where
  pub least : ℕ
  pub most : ℕ
  pub width : ℕ
  pub safe : Bool

-- A bound of a result: nothing refused so far, and the high end below 2^64.
unfoldable pub bound : Bool → ℕ → ℕ → ℕ → Bound
bound safe least most width = record { least = least; most = most; width = width; safe = ltb most (2 ^ 64) && safe }

unfoldable pub constant : ℕ → ℕ → Bound
constant n d = bound true (n * U / d) (n * U / d) 0

unfoldable pub sum : Bound → Bound → Bound
sum b c = bound (b.safe && c.safe) (b.least + c.least) (b.most + c.most) (b.width + c.width)

unfoldable pub difference : Bound → Bound → Bound
difference b c = bound (b.safe && c.safe) (b.least - c.most) (b.most - c.least) (b.width + c.width)

unfoldable pub product : Bound → Bound → Bound
product b c =
    bound (b.safe && c.safe) (down (b.least * c.least) U) (up (b.most * c.most) U)
    (up (b.most * c.width + b.width * c.most) U + 1)

unfoldable pub quotient : Bound → Bound → Bound
quotient b c =
    bound (ltb 0 c.least && b.safe && c.safe) (down (b.least * U) c.most) (up (b.most * U) c.least)
    (up (b.width * U + c.width) c.least + up (b.most * U * c.width) (c.least * c.least) + 1)

unfoldable pub times : Bound → ℕ → Bound
times b n = bound b.safe (b.least * n) (b.most * n) (b.width * n)

unfoldable pub over : Bound → ℕ → Bound
over b n = bound (ltb 0 n && b.safe) (down b.least n) (up b.most n) (up b.width n + 1)

-- The first of two guesses that passes its test, or what is right without one.
unfoldable pub first_passing : (ℕ → Bool) → ℕ → ℕ → ℕ → ℕ
first_passing passes s t otherwise = elim (passes s) [ true ↦ s | false ↦ elim (passes t) [ true ↦ t | false ↦ otherwise ] ]

unfoldable pub newton : ℕ → ℕ → ℕ → ℕ
newton zero x s = s
newton (suc n) x s = newton n x ((s + x / s) / 2)

unfoldable pub root_guess : ℕ → ℕ
root_guess x = newton 16 x (8 * U)

unfoldable pub root_below : ℕ → ℕ
root_below x = let s = root_guess x in first_passing (λ t. leb (t * t) x) s (s - 1) 0

unfoldable pub root_above : ℕ → ℕ
root_above x = let s = root_guess x in first_passing (λ t. leb x (t * t)) s (s + 1) x

unfoldable pub root : Bound → Bound
root b =
    let s = root_below (b.least * U) in
    bound b.safe s (root_above (b.most * U)) (up (b.width * U) (max 1 (s + s)) + 2)

-- Newton for the fifth root, on trillionths: s is replaced by (4·s + x/s⁴) over 5.
unfoldable pub fifth_newton : ℕ → ℕ → ℕ → ℕ
fifth_newton zero x s = s
fifth_newton (suc n) x s = fifth_newton n x ((4 * s + x / (s * s * (s * s))) / 5)

unfoldable pub fifth_root_guess : ℕ → ℕ
fifth_root_guess x = fifth_newton 24 (x * U⁴) (27 * U)

-- A guess is off by the roundings of the power, so it is moved by one part in 2^30 first.
unfoldable pub fifth_root_below : ℕ → ℕ
fifth_root_below x = let s = fifth_root_guess x in first_passing (λ t. leb (fifth_power_up t) x) s (s - s / 2 ^ 30 - 1) 0

unfoldable pub fifth_root_above : ℕ → ℕ
fifth_root_above x =
    let s = fifth_root_guess x in first_passing (λ t. leb x (fifth_power_down t)) s (s + s / 2 ^ 30 + 1) (x + U)

-- How far apart the ends of a fifth root are: by the slope at the least low end, where that is far enough, else at most all of it.
unfoldable pub fifth_root_width : ℕ → ℕ → ℕ → ℕ
fifth_root_width least most width =
    let d = up (width * U⁴ + (loss (most + most) + loss (most + most))) (slope least) in
    elim (ltb 0 (slope least) && leb (suc most + d) (most + most)) [ true ↦ suc d | false ↦ most ]

unfoldable pub fifth_root : Bound → Bound
fifth_root b =
    let s = fifth_root_below b.least in
    let t = fifth_root_above b.most in
    bound b.safe s t (fifth_root_width s t b.width)

unfoldable pub high_only : Bound → Bound
high_only b = bound b.safe 0 b.most b.most

-- The span that 63 tests.
unfoldable pub spanning : Bool → Bound → Bound
spanning test b = record { least = b.least; most = b.most; width = b.width; safe = test && b.safe }

unfoldable pub at_most_one : Bound → Bound
at_most_one b = spanning (leb b.most U) b

unfoldable pub at_most_a_third : Bound → Bound
at_most_a_third b = spanning (leb b.most (up (U * U) (3 * U))) b

unfoldable pub below_256 : Bound → Bound
below_256 b = spanning (ltb b.most (256 * U)) b

-- x or the cold pair, which is as wide as it is high.
unfoldable pub or_cold : Bool → Bound → Bound
or_cold safe x =
    record {
      least = 0;
      most = max x.most cold_pair.high;
      width = max x.width cold_pair.high;
      safe = safe && x.safe;
    }

-- x where y stays below 20, else either.
unfoldable pub unless_cold : Bound → Bound → Bound
unless_cold y x = elim (ltb y.most (20 * U)) [ true ↦ spanning y.safe x | false ↦ or_cold y.safe x ]

abbrev pub bounds : Arithmetic
bounds =
    record {
      Carrier = Bound;
      constant = constant;
      sum = sum;
      difference = difference;
      product = product;
      quotient = quotient;
      times = times;
      over = over;
      root = root;
      fifth_root = fifth_root;
      high_only = high_only;
      pairs_of_terms = 8;
      at_most_one = at_most_one;
      at_most_a_third = at_most_a_third;
      below_256 = below_256;
      unless_cold = unless_cold;
    }

-- The tilted face: the ends of the root, and a width that is of use near 0 too.
unfoldable pub exposed : Bound → Bound → Bound
exposed b c =
    let t = most_exposed bounds b c in
    record { least = t.least; most = t.most; width = b.width + c.width + slack; safe = t.safe && (b.safe && c.safe) }
