-- Document 01, "Pairs of trillionths": the operations on ends of any size.
use Rattle.std.specs.Prelude.{ℕ, ◌+◌, ◌*◌, ◌-◌, ◌/◌, Bool, true, false, leb}
use Rattle.pairs.specs.declared.answer.Pair.{Pair}
use Rattle.pairs.specs.Search.{greatest, least}
use Rattle.pairs.specs.Arithmetic.{Arithmetic}

-- "U is 10^12."
abbrev pub U : ℕ
U = 1_000_000_000_000

-- "A pair [a, b] is a low and a high end, whole numbers of 10^-12, never negative."
abbrev pub ends : ℕ → ℕ → Pair
ends a b = record { low = a; high = b }

-- n over d, rounded down and rounded up.
unfoldable pub down : ℕ → ℕ → ℕ
down n d = n / d

unfoldable pub up : ℕ → ℕ → ℕ
up n d = (n + (d - 1)) / d

-- "A constant is an exact pair": n over d, where d divides n·U.
unfoldable pub constant : ℕ → ℕ → Pair
constant n d = ends (n * U / d) (n * U / d)

-- "sum: [a+c, b+d]."
unfoldable pub sum : Pair → Pair → Pair
sum p q = ends (p.low + q.low) (p.high + q.high)

-- "Difference: [a-d, b-c], each end raised to 0 where below it."
unfoldable pub difference : Pair → Pair → Pair
difference p q = ends (p.low - q.high) (p.high - q.low)

-- "product: ac/U down, bd/U up."
unfoldable pub product : Pair → Pair → Pair
product p q = ends (down (p.low * q.low) U) (up (p.high * q.high) U)

-- "Quotient: aU/d down, bU/c up."
unfoldable pub quotient : Pair → Pair → Pair
quotient p q = ends (down (p.low * U) q.high) (up (p.high * U) q.low)

-- "By a whole number: times is exact, over goes down and up."
unfoldable pub times : Pair → ℕ → Pair
times p n = ends (p.low * n) (p.high * n)

unfoldable pub over : Pair → ℕ → Pair
over p n = ends (down p.low n) (up p.high n)

-- "root: greatest whole s with s² ≤ aU; least s with s² ≥ bU." No such s is above the radicand itself.
unfoldable pub root_down : ℕ → ℕ
root_down n = greatest (λ s. leb (s * s) n) n

unfoldable pub root_up : ℕ → ℕ
root_up n = least (λ s. leb n (s * s)) n

unfoldable pub root : Pair → Pair
root p = ends (root_down (p.low * U)) (root_up (p.high * U))

-- "the product s·s·s·s·s, each rounded up", and each rounded down; "Products run from left to right."
unfoldable pub fifth_power_up : ℕ → ℕ
fifth_power_up s = up (up (up (up (s * s) U * s) U * s) U * s) U

unfoldable pub fifth_power_down : ℕ → ℕ
fifth_power_down s = down (down (down (down (s * s) U * s) U * s) U * s) U

-- "fifth root: greatest s whose product s·s·s·s·s, each rounded up, is at most a; least s whose product, each rounded
-- down, is at least b." From U on a product is at least s, so no such s is above a + U or b + U.
unfoldable pub fifth_root_down : ℕ → ℕ
fifth_root_down a = greatest (λ s. leb (fifth_power_up s) a) (a + U)

unfoldable pub fifth_root_up : ℕ → ℕ
fifth_root_up b = least (λ s. leb b (fifth_power_down s)) (b + U)

unfoldable pub fifth_root : Pair → Pair
fifth_root p = ends (fifth_root_down p.low) (fifth_root_up p.high)

unfoldable pub high_only : Pair → Pair
high_only p = ends 0 p.high

abbrev pub untested : Pair → Pair
untested p = p

-- Request 8: "Where y's low end is 20 or more and neither 61 nor 63 applies, exp(-y) shall be the pair [0, 2,062 trillionths]."
unfoldable pub is_cold : Pair → Bool
is_cold y = leb (20 * U) y.low

abbrev pub cold_pair : Pair
cold_pair = ends 0 2_062

unfoldable pub unless_cold : Pair → Pair → Pair
unless_cold y x = elim (is_cold y) [ true ↦ cold_pair | false ↦ x ]

-- The arithmetic of rounded pairs: 16 and 17 terms, nothing is refused.
abbrev pub rounded : Arithmetic
rounded =
    record {
      Carrier = Pair;
      constant = constant;
      sum = sum;
      difference = difference;
      product = product;
      quotient = quotient;
      times = times;
      over = over;
      root = root;
      fifth_root = fifth_root;
      high_only = high_only;
      pairs_of_terms = 8;
      at_most_one = untested;
      at_most_a_third = untested;
      below_256 = untested;
      unless_cold = unless_cold;
    }
