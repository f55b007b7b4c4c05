-- Each operation on rounded pairs keeps the low end at most the high end.
-- Both ends grow alike, and down is at most up. Assumes nothing.
use Prim.Native.Nat.{ℕ, zero, ◌*◌, ◌≤◌, ◌<◌, zero-le}
use native.Mathlib.Nat.{le_trans, le_refl, mul-le-mul, mul-le-mul_right, lt_of_not-le, not-le_of_lt, lt_of_lt_of_le, suc-mul}
use native.Mathlib.Decide.{dec_le}
use native.Mathlib.Omega.{arith}
use lib.Dec.{lit<}
use Rattle.pairs.specs.declared.answer.Pair.{Pair}
use Rattle.pairs.specs.Rounded.{U, constant, sum, difference, product, quotient, times, over, root, fifth_root, high_only, root_down, root_up}
use Rattle.pairs.proofs.Rounding.{down_grows, down_below_up}
use Rattle.pairs.proofs.Search.{root_down_passes, root_up_passes}
use Rattle.pairs.proofs.FifthPower.{fifth_root_ends}

pub record Ordered (p : Pair) : Type 0 where
  pub ends : p.low ≤ p.high

pub constant_ordered : (n d : ℕ) → Ordered (constant n d)
unfolding constant
constant_ordered n d = record { ends = le_refl _ }

pub sum_ordered : {p q : Pair} → Ordered p → Ordered q → Ordered (sum p q)
unfolding sum
sum_ordered h k = record { ends = omega arith }

pub difference_ordered : {p q : Pair} → Ordered p → Ordered q → Ordered (difference p q)
unfolding difference
difference_ordered h k = record { ends = omega arith }

pub product_ordered : {p q : Pair} → Ordered p → Ordered q → Ordered (product p q)
unfolding product
product_ordered h k =
    record { ends = le_trans (down_grows (lit< {n = U} tt) (le_refl U) (mul-le-mul h.ends k.ends)) (down_below_up _ U) }

pub quotient_ordered : {p q : Pair} → zero < q.low → Ordered p → Ordered q → Ordered (quotient p q)
unfolding quotient
quotient_ordered z h k =
    record { ends = le_trans (down_grows z k.ends (mul-le-mul_right U h.ends)) (down_below_up _ _) }

pub times_ordered : {p : Pair} → Ordered p → (n : ℕ) → Ordered (times p n)
unfolding times
times_ordered h n = record { ends = mul-le-mul_right n h.ends }

pub over_ordered : {p : Pair} → Ordered p → (n : ℕ) → zero < n → Ordered (over p n)
unfolding over
over_ordered h n z = record { ends = le_trans (down_grows z (le_refl n) h.ends) (down_below_up _ n) }

-- What squares keep in order is in order.
pub square_cancels : (s t : ℕ) → s * s ≤ t * t → s ≤ t
square_cancels s t h = elim (dec_le s t) [ yes p ↦ p | no p ↦ absurd (not-le_of_lt (less (lt_of_not-le p)) h) ]
  where
    less : t < s → t * t < s * s
    less q = lt_of_lt_of_le (omega (arith, suc-mul t t)) (mul-le-mul q q)

pub root_ordered : {p : Pair} → Ordered p → Ordered (root p)
unfolding root
root_ordered {p} h =
    record {
      ends =
          square_cancels (root_down (p.low * U)) (root_up (p.high * U))
          (le_trans (root_down_passes (p.low * U)) (le_trans (mul-le-mul_right U h.ends) (root_up_passes (p.high * U))));
    }

pub fifth_root_ordered : {p : Pair} → Ordered p → Ordered (fifth_root p)
unfolding fifth_root
fifth_root_ordered {p} h = record { ends = fifth_root_ends p.low p.high h.ends }

pub high_only_ordered : (p : Pair) → Ordered (high_only p)
unfolding high_only
high_only_ordered p = record { ends = zero-le }
