-- Document 01, "Depth n": "The same steps on pairs of exact fractions .. no rounding anywhere". Here such a pair is a bracket.
use Rattle.std.specs.Prelude.{ℕ, ◌+◌, ◌*◌, ◌^◌, Bool, ◌&&◌, ltb}
use Rattle.std.proofs.Common.{pow_pos}
use Rattle.pairs.specs.Arithmetic.{Arithmetic}
use Rattle.pairs.specs.Search.{greatest, least}
use Rattle.exact.specs.Fraction.{Fraction, at_most, above_0, whole, power, ◌⊕◌, ◌⊖◌, ◌⊗◌, ◌⊘◌}

-- A low end, a high end, and whether every divisor on the way to them was above 0.
pub record Bracket : Type 0 where
  pub low : Fraction
  pub high : Fraction
  pub defined : Bool

-- "A constant is an exact pair": n over d.
unfoldable pub constant : ℕ → ℕ → Bracket
constant n d = record { low = whole n ⊘ whole d; high = whole n ⊘ whole d; defined = ltb 0 d }

unfoldable pub sum : Bracket → Bracket → Bracket
sum x y = record { low = x.low ⊕ y.low; high = x.high ⊕ y.high; defined = x.defined && y.defined }

-- "Differences are raised to 0 as above."
unfoldable pub difference : Bracket → Bracket → Bracket
difference x y = record { low = x.low ⊖ y.high; high = x.high ⊖ y.low; defined = x.defined && y.defined }

unfoldable pub product : Bracket → Bracket → Bracket
product x y = record { low = x.low ⊗ y.low; high = x.high ⊗ y.high; defined = x.defined && y.defined }

-- "the low end of every divisor is above 0": and so must its high end be, since it divides too.
unfoldable pub divides : Bracket → Bool
divides y = above_0 y.low && above_0 y.high

unfoldable pub quotient : Bracket → Bracket → Bracket
quotient x y =
    record { low = x.low ⊘ y.high; high = x.high ⊘ y.low; defined = x.defined && (y.defined && divides y) }

-- By a whole number; over 0 is a division by 0 like any other.
unfoldable pub times : Bracket → ℕ → Bracket
times x n = record { low = x.low ⊗ whole n; high = x.high ⊗ whole n; defined = x.defined }

unfoldable pub over : Bracket → ℕ → Bracket
over x n = record { low = x.low ⊘ whole n; high = x.high ⊘ whole n; defined = x.defined && ltb 0 n }

-- s times 2^-n.
unfoldable pub multiple : ℕ → ℕ → Fraction
multiple n s = record { num = s; den = 2 ^ n; den_above_0 = pow_pos n }

-- Where the two searches end: the numerator of x plus 1, in multiples of 2^-n. No root of x is above it.
unfoldable pub enough : ℕ → Fraction → ℕ
enough n x = (x.num + 1) * 2 ^ n

-- "Roots and fifth roots: the greatest multiple of 2^-n whose power is at most the low end, the least whose power is at least
-- the high end." The root of order k.
unfoldable pub root_below : ℕ → ℕ → Fraction → Fraction
root_below k n x = multiple n (greatest (λ s. at_most (power (multiple n s) k) x) (enough n x))

unfoldable pub root_above : ℕ → ℕ → Fraction → Fraction
root_above k n x = multiple n (least (λ s. at_most x (power (multiple n s) k)) (enough n x))

unfoldable pub root : ℕ → ℕ → Bracket → Bracket
root k n x = record { low = root_below k n x.low; high = root_above k n x.high; defined = x.defined }

unfoldable pub high_only : Bracket → Bracket
high_only x = record { low = whole 0; high = x.high; defined = x.defined }

-- "No test from Turned back is made on it."
abbrev pub untested : Bracket → Bracket
untested x = x

-- Request 8: "The exact chain is left as it is."
unfoldable pub unless_cold : Bracket → Bracket → Bracket
unless_cold y x = x

-- The exact arithmetic at depth n: "2n and 2n+1 terms for 16 and 17 (in H: 2n, and p with index 2n+1)".
abbrev pub exact : ℕ → Arithmetic
exact n =
    record {
      Carrier = Bracket;
      constant = constant;
      sum = sum;
      difference = difference;
      product = product;
      quotient = quotient;
      times = times;
      over = over;
      root = root 2 n;
      fifth_root = root 5 n;
      high_only = high_only;
      pairs_of_terms = n;
      at_most_one = untested;
      at_most_a_third = untested;
      below_256 = untested;
      unless_cold = unless_cold;
    }
