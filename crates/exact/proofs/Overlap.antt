-- A rounded pair [a, b] and an exact bracket [A, B] overlap when a ≤ B and A ≤ b, and each operation keeps that.
-- Every operation grows or falls in each end, and rounding goes outwards. Assumes nothing.
use mathlib.Core.Path.{◌≡◌, sym}
use Prim.Native.Nat.{ℕ, zero, suc, ◌+◌, ◌*◌, ◌-◌, ◌/◌, ◌≤◌, ◌<◌, zero-le}
use native.Mathlib.Nat.{mul_left_comm, mul-le-mul_right, mul-pos, le_refl, suc-pred-eq_of_pos, mul-one, one-mul, zero-lt-suc, zero-mul, div-zero, le_of_eq, lt_of_not-le}
use native.Mathlib.Decide.{dec_le}
use native.Mathlib.Omega.{arith}
use lib.Dec.{lit<}
use Rattle.pairs.specs.declared.answer.Pair.{Pair}
use Rattle.pairs.specs.Rounded as rounded
use Rattle.pairs.specs.Rounded.{U, cold_pair, up, down, root_down, root_up, fifth_power_up, fifth_power_down}
use Rattle.pairs.proofs.Rounding.{up_covers, down_within}
use Rattle.pairs.proofs.Search.{root_down_passes, root_up_passes, fifth_root_down_passes, fifth_root_up_passes}
use Rattle.exact.specs.Fraction.{Fraction, ◌⊑◌, whole, ◌⊕◌, ◌⊗◌, ◌⊘◌, power}
use Rattle.exact.specs.Depth as depth
use Rattle.exact.specs.Depth.{Bracket}
use Rattle.exact.proofs.Order.{◌⟫◌, ⊑_refl, ⊕-mono, ⊖-from, ⊖-to, ⊗-mono, ⊘-mono, 0_least, over_mono, 1-⊗, to-1-⊗, power_cancel}
use Rattle.exact.proofs.Root.{root_below_power, root_above_power}

-- a trillionths as a fraction.
unfoldable pub trillionths : ℕ → Fraction
trillionths a = record { num = a; den = U; den_above_0 = lit< tt }

pub record Overlap (p : Pair) (x : Bracket) : Type 0 where
  pub low : trillionths p.low ⊑ x.high
  pub high : x.low ⊑ trillionths p.high

pub trillionths_mono : {a b : ℕ} → a ≤ b → trillionths a ⊑ trillionths b
unfolding trillionths
trillionths_mono h = record { cross = mul-le-mul_right U h }

pub trillionths_0 : trillionths 0 ⊑ whole 0
unfolding whole trillionths
trillionths_0 = record { cross = zero-le }

-- ---- constants: exact where the divisor divides
pub constant_overlap : (n d : ℕ) → zero < d → n * U / d * d ≡ n * U → Overlap (rounded.constant n d) (depth.constant n d)
unfolding rounded.constant depth.constant trillionths ◌⊘◌ whole
constant_overlap n d p e =
    record {
      low = record { cross = rw (one-mul, suc-pred-eq_of_pos p, mul-one) (le_of_eq e) };
      high = record { cross = rw (one-mul, suc-pred-eq_of_pos p, mul-one) (le_of_eq (sym e)) };
    }

-- ---- sum
pub sum_down : (a c : ℕ) → trillionths (a + c) ⊑ trillionths a ⊕ trillionths c
unfolding trillionths ◌⊕◌
sum_down a c = record { cross = omega arith }

pub sum_up : (a c : ℕ) → trillionths a ⊕ trillionths c ⊑ trillionths (a + c)
unfolding trillionths ◌⊕◌
sum_up a c = record { cross = omega arith }

pub sum_overlap : {p q : Pair} {x y : Bracket} → Overlap p x → Overlap q y → Overlap (rounded.sum p q) (depth.sum x y)
unfolding rounded.sum depth.sum
sum_overlap h k =
    record { low = sum_down _ _ ⟫ ⊕-mono h.low k.low; high = ⊕-mono h.high k.high ⟫ sum_up _ _ }

-- ---- difference
-- a - c and c trillionths make a.
back : (a c : ℕ) → c ≤ a → trillionths (a - c) ⊕ trillionths c ⊑ trillionths a
unfolding trillionths ◌⊕◌
back a c h = record { cross = omega arith }

forth : (a c : ℕ) → trillionths a ⊑ trillionths (a - c) ⊕ trillionths c
unfolding trillionths ◌⊕◌
forth a c = record { cross = omega arith }

-- The rounded difference overlaps every bracket z that is at least as wide as x - y.
pub difference_overlap_wider :
    {p q : Pair} {x y z : Bracket} →
    ((c : Fraction) → c ⊕ y.low ⊑ x.high → c ⊑ z.high) → ((c : Fraction) → x.low ⊑ c ⊕ y.high → z.low ⊑ c) →
    Overlap p x → Overlap q y → Overlap (rounded.difference p q) z
unfolding rounded.difference
difference_overlap_wider {p} {q} above below h k =
    record {
      low =
          elim (dec_le q.high p.low) [
            | yes l ↦ above _ (⊕-mono ⊑_refl k.high ⟫ back p.low q.high l ⟫ h.low)
            | no l ↦ trillionths_mono (omega (arith, lt_of_not-le l)) ⟫ trillionths_0 ⟫ 0_least
          ];
      high = below _ (h.high ⟫ forth p.high q.low ⟫ ⊕-mono ⊑_refl k.low);
    }

pub difference_overlap :
    {p q : Pair} {x y : Bracket} → Overlap p x → Overlap q y → Overlap (rounded.difference p q) (depth.difference x y)
unfolding depth.difference
difference_overlap h k = difference_overlap_wider (λ c. ⊖-from _) (λ c. ⊖-to _) h k

-- ---- product
product_down : (a c : ℕ) → trillionths (down (a * c) U) ⊑ trillionths a ⊗ trillionths c
unfolding trillionths ◌⊗◌ down
product_down a c = record { cross = omega arith }

product_up : (a c : ℕ) → trillionths a ⊗ trillionths c ⊑ trillionths (up (a * c) U)
unfolding trillionths ◌⊗◌ up
product_up a c = record { cross = omega arith }

pub product_overlap : {p q : Pair} {x y : Bracket} → Overlap p x → Overlap q y → Overlap (rounded.product p q) (depth.product x y)
unfolding rounded.product depth.product
product_overlap h k =
    record { low = product_down _ _ ⟫ ⊗-mono h.low k.low; high = ⊗-mono h.high k.high ⟫ product_up _ _ }

-- ---- quotients; native division by 0 gives 0
down_by_0 : (n : ℕ) → down n 0 ≡ 0
unfolding down
down_by_0 n = div-zero n

quotient_down : (a c : ℕ) → trillionths (down (a * U) c) ⊑ trillionths a ⊘ trillionths c
unfolding trillionths ◌⊘◌
quotient_down a zero = record { cross = rw (down_by_0 (a * U), zero-mul) zero-le }
quotient_down a (suc c) =
    record {
      cross =
          rw (suc-pred-eq_of_pos (mul-pos (lit< {n = U} tt) (zero-lt-suc c)), mul_left_comm (down (a * U) (suc c)) U (suc c))
          (omega (arith, down_within (a * U) (suc c)));
    }

quotient_up : (a c : ℕ) → zero < c → trillionths a ⊘ trillionths c ⊑ trillionths (up (a * U) c)
unfolding trillionths ◌⊘◌
quotient_up a c p =
    record {
      cross =
          rw (suc-pred-eq_of_pos (mul-pos (lit< {n = U} tt) p), mul_left_comm (up (a * U) c) U c)
          (omega (arith, up_covers (a * U) c p));
    }

trillionths_above_0 : {a : ℕ} → zero < a → zero < (trillionths a).num
unfolding trillionths
trillionths_above_0 p = p

pub quotient_overlap :
    {p q : Pair} {x y : Bracket} → zero < q.low → zero < y.low.num →
    Overlap p x → Overlap q y → Overlap (rounded.quotient p q) (depth.quotient x y)
unfolding rounded.quotient depth.quotient
quotient_overlap c z h k =
    record {
      low = quotient_down _ _ ⟫ ⊘-mono z h.low k.high;
      high = ⊘-mono (trillionths_above_0 c) h.high k.low ⟫ quotient_up _ _ c;
    }

-- ---- by a whole number
times_down : (a n : ℕ) → trillionths (a * n) ⊑ trillionths a ⊗ whole n
unfolding trillionths ◌⊗◌ whole
times_down a n = record { cross = omega arith }

times_up : (a n : ℕ) → trillionths a ⊗ whole n ⊑ trillionths (a * n)
unfolding trillionths ◌⊗◌ whole
times_up a n = record { cross = omega arith }

pub times_overlap : (n : ℕ) {p : Pair} {x : Bracket} → Overlap p x → Overlap (rounded.times p n) (depth.times x n)
unfolding rounded.times depth.times
times_overlap n h =
    record { low = times_down _ n ⟫ ⊗-mono h.low ⊑_refl; high = ⊗-mono h.high ⊑_refl ⟫ times_up _ n }

over_down : (a n : ℕ) → zero < n → trillionths (down a n) ⊑ trillionths a ⊘ whole n
unfolding trillionths ◌⊘◌ whole
over_down a n p =
    record {
      cross =
          rw (suc-pred-eq_of_pos (mul-pos (lit< {n = U} tt) p), mul_left_comm (down a n) U n) (omega (arith, down_within a n));
    }

over_up : (a n : ℕ) → zero < n → trillionths a ⊘ whole n ⊑ trillionths (up a n)
unfolding trillionths ◌⊘◌ whole
over_up a n p =
    record {
      cross =
          rw (suc-pred-eq_of_pos (mul-pos (lit< {n = U} tt) p), mul_left_comm (up a n) U n) (omega (arith, up_covers a n p));
    }

pub over_overlap : (n : ℕ) → zero < n → {p : Pair} {x : Bracket} → Overlap p x → Overlap (rounded.over p n) (depth.over x n)
unfolding rounded.over depth.over
over_overlap n z h =
    record {
      low = over_down _ n z ⟫ over_mono n n z (le_refl n) h.low;
      high = over_mono n n z (le_refl n) h.high ⟫ over_up _ n z;
    }

-- ---- roots: a rounded low end whose power is at most p's, a rounded high end whose power is at least p's
root_overlap_by :
    (k n : ℕ) {p r : Pair} {x : Bracket} →
    power (trillionths r.low) (suc k) ⊑ trillionths p.low → trillionths p.high ⊑ power (trillionths r.high) (suc k) →
    Overlap p x → Overlap r (depth.root (suc k) n x)
unfolding depth.root
root_overlap_by k n {x = x} below above h =
    record {
      low = power_cancel k (below ⟫ h.low ⟫ root_above_power k n x.high);
      high = power_cancel k (root_below_power k n x.low ⟫ h.high ⟫ above);
    }

square_below : (a : ℕ) → power (trillionths (root_down (a * U))) 2 ⊑ trillionths a
unfolding trillionths power ◌⊗◌ whole
square_below a = record { cross = omega (arith, root_down_passes (a * U), one-mul (root_down (a * U))) }

square_above : (a : ℕ) → trillionths a ⊑ power (trillionths (root_up (a * U))) 2
unfolding trillionths power ◌⊗◌ whole
square_above a = record { cross = omega (arith, root_up_passes (a * U), one-mul (root_up (a * U))) }

pub root_overlap : (n : ℕ) {p : Pair} {x : Bracket} → Overlap p x → Overlap (rounded.root p) (depth.root 2 n x)
unfolding rounded.root
root_overlap n h = root_overlap_by 1 n (square_below _) (square_above _) h

fifth_power_above : (s : ℕ) → power (trillionths s) 5 ⊑ trillionths (fifth_power_up s)
unfolding fifth_power_up power
fifth_power_above s =
    times_s _ (times_s _ (times_s _ (times_s _ 1-⊗)))
  where
    times_s : {x : Fraction} (a : ℕ) → x ⊑ trillionths a → x ⊗ trillionths s ⊑ trillionths (up (a * s) U)
    times_s a h = ⊗-mono h ⊑_refl ⟫ product_up a s

fifth_power_below : (s : ℕ) → trillionths (fifth_power_down s) ⊑ power (trillionths s) 5
unfolding fifth_power_down power
fifth_power_below s =
    times_s _ (times_s _ (times_s _ (times_s _ to-1-⊗)))
  where
    times_s : {x : Fraction} (a : ℕ) → trillionths a ⊑ x → trillionths (down (a * s) U) ⊑ x ⊗ trillionths s
    times_s a h = product_down a s ⟫ ⊗-mono h ⊑_refl

pub fifth_root_overlap : (n : ℕ) {p : Pair} {x : Bracket} → Overlap p x → Overlap (rounded.fifth_root p) (depth.root 5 n x)
unfolding rounded.fifth_root
fifth_root_overlap n h =
    root_overlap_by 4 n (fifth_power_above _ ⟫ trillionths_mono (fifth_root_down_passes _))
    (trillionths_mono (fifth_root_up_passes _) ⟫ fifth_power_below _) h

-- ---- a term that counts in the high end of the rounded pair alone: of the exact one only the low end is bounded
unfoldable pub low_only : Bracket → Bracket
low_only x = record { low = x.low; high = whole 0; defined = x.defined }

pub high_only_overlap : {p : Pair} {x : Bracket} → Overlap p x → Overlap (rounded.high_only p) (low_only x)
unfolding rounded.high_only low_only
high_only_overlap h = record { low = trillionths_0; high = h.high }

-- ---- the cold pair: at depth n exp(-y) is its series for every y
pub below_20_overlap : {p : Pair} {x : Bracket} (y : Bracket) → Overlap p x → Overlap p (depth.unless_cold y x)
unfolding depth.unless_cold
below_20_overlap y h = record { low = h.low; high = h.high }

pub cold_overlap : (y x : Bracket) → x.low ⊑ trillionths cold_pair.high → Overlap cold_pair (depth.unless_cold y x)
unfolding depth.unless_cold
cold_overlap y x h = record { low = trillionths_0 ⟫ 0_least; high = h }

pub wider_overlap : {p : Pair} {x y : Bracket} → y.low ⊑ x.low → x.high ⊑ y.high → Overlap p x → Overlap p y
wider_overlap l g h = record { low = h.low ⟫ g; high = l ⟫ h.high }
