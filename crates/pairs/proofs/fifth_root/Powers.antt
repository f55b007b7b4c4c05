-- The rounded fourth power times s, by which the code tests a fifth root: it fits, it ends past every word, and a bracket of
-- neighbours names the root. The rounded product grows with its factors and its rounding. Assumes nothing.
use mathlib.Core.Path.{◌≡◌, refl, sym, ◌∙◌}
use Prim.Native.Nat.{ℕ, zero, suc, ◌+◌, ◌*◌, ◌-◌, ◌^◌, ◌≤◌, ◌<◌, zero-le}
use native.Mathlib.Nat.{le_trans, le_refl, lt_of_lt_of_le, mul-le-mul, mul-le-mul_right, mul-zero}
use native.Mathlib.Omega.{arith}
use lib.Dec.{lit<, lit≤}
use Rattle.pairs.specs.declared.product.Rounding.{Rounding}
use Rattle.pairs.specs.declared.product.Rounding.TheVariants.{Down, Up}
use Rattle.pairs.specs.Rounded.{U, up, down, fifth_power_up, fifth_power_down, fifth_root_down, fifth_root_up}
use Rattle.pairs.specs.Private.{carried, fourth_power, Brackets}
use Rattle.pairs.proofs.product.Parts.{carried_at_most, carried_at_least}
use Rattle.pairs.proofs.Search.{fifth_root_down_is, fifth_root_up_is, fifth_root_up_bound}

-- The code's LIMIT.
abbrev pub limit : ℕ
limit = 28_391_212_775_636

-- ---- each product on the way to the fourth power, at most what it is at the limit
module _ (r : Rounding) (s : ℕ) (k : s ≤ limit) where
  pub square_le : carried r (s * s) ≤ 806_060_962_871_437
  unfolding up
  square_le = carried_at_most r {n = limit * limit} (mul-le-mul k k)

  pub cube_le : carried r (carried r (s * s) * s) ≤ 22_885_048_307_016_998
  unfolding up
  cube_le = carried_at_most r {n = 806_060_962_871_437 * limit} (mul-le-mul square_le k)

  pub fourth_le : fourth_power r s ≤ 649_734_275_865_228_007
  unfolding fourth_power up
  fourth_le = carried_at_most r {n = 22_885_048_307_016_998 * limit} (mul-le-mul cube_le k)

-- ---- the first bracket: all numbers up to the limit
fourth_grows : (r : Rounding) (s : ℕ) → fourth_power Down s ≤ fourth_power r s
unfolding fourth_power
fourth_grows r s =
    carried_at_least r (mul-le-mul_right s (carried_at_least r (mul-le-mul_right s (carried_at_least r (le_refl (s * s))))))

limit_past_down : 2 ^ 64 * U ≤ fourth_power Down limit * limit
unfolding fourth_power down
limit_past_down = lit≤ {m = 2 ^ 64 * U} {n = fourth_power Down limit * limit} tt

limit_past : (r : Rounding) → 2 ^ 64 * U ≤ fourth_power r limit * limit
limit_past r = le_trans limit_past_down (mul-le-mul_right limit (fourth_grows r limit))

pub all_numbers : (r : Rounding) (t : ℕ) → t < 2 ^ 64 * U → Brackets r t 0 limit
all_numbers r t h =
    record {
      ordered = lit< tt;
      limit = le_refl limit;
      within = rw mul-zero zero-le;
      beyond = lt_of_lt_of_le h (limit_past r);
    }

-- ---- the fifth power is the last division of the fourth times s
up_power : (s : ℕ) → fifth_power_up s ≡ up (fourth_power Up s * s) U
unfolding fifth_power_up fourth_power
up_power s = refl

down_power : (s : ℕ) → fifth_power_down s ≡ down (fourth_power Down s * s) U
unfolding fifth_power_down fourth_power
down_power s = refl

up_within : (n a : ℕ) → n ≤ a * U → up n U ≤ a
unfolding up
up_within n a h = omega arith

up_past : (n a : ℕ) → a * U < n → a < up n U
unfolding up
up_past n a h = omega arith

down_short : (n b t : ℕ) → t + 1 ≡ b * U → n ≤ t → down n U < b
unfolding down
down_short n b t e h = omega arith

down_reaches : (n b t : ℕ) → t + 1 ≡ b * U → t < n → b ≤ down n U
unfolding down
down_reaches n b t e h = omega arith

-- ---- neighbours name the root
pub named_down : (a t s : ℕ) → t ≡ a * U → Brackets Up t (s - 1) s → s - 1 ≡ fifth_root_down a
named_down a t zero e b = absurd (omega (arith, b.ordered))
named_down a t (suc s) e b =
    let p : suc s - 1 ≡ s = omega arith in
    p ∙ sym (fifth_root_down_is a s (rw up_power (up_within _ _ (rw (p, e) at b.within))) (rw up_power (up_past _ _ (rw e at b.beyond))))

pub named_up : (b t s : ℕ) → t + 1 ≡ b * U → Brackets Down t (s - 1) s → s ≡ fifth_root_up b
named_up b t zero e k = absurd (omega (arith, k.ordered))
named_up b t (suc s) e k =
    let p : suc s - 1 ≡ s = omega arith in
    sym (fifth_root_up_is b s (rw down_power (down_short _ b t e (rw p at k.within))) (rw down_power (down_reaches _ b t e k.beyond)))

pub down_of_zero : zero ≡ fifth_root_down 0
unfolding fifth_power_up up
down_of_zero = sym (fifth_root_down_is 0 0 (lit≤ tt) (lit< tt))

pub up_of_zero : zero ≡ fifth_root_up 0
up_of_zero = omega (arith, fifth_root_up_bound 0 0 zero-le)
