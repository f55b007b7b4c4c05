-- A bracket is sound when every divisor on the way to it was above 0 and its low end is at most its high end. Each operation
-- keeps that, a quotient where its divisor's low end is above 0. Each end grows or falls with its arguments. Assumes nothing.
use mathlib.Core.Path.{◌≡◌, refl}
use mathlib.Core.Bool.{Bool, true, ◌&&◌}
use Prim.Native.Nat.{ℕ, zero, suc, ◌<◌}
use native.Mathlib.Nat.{le_refl}
use borrow.Author.Tests.{lt-ltb}
use Rattle.exact.specs.Fraction.{Fraction, ◌⊑◌, above_0, whole, ◌⊕◌, ◌⊗◌, ◌⊘◌}
use Rattle.exact.specs.Depth.{Bracket, divides, constant, sum, difference, product, quotient, times, over, root, high_only, unless_cold}
use Rattle.exact.proofs.Order.{◌⟫◌, ⊑_refl, ⊕-mono, ⊖-mono, ⊗-mono, ⊘-mono, 0_least, over_mono, above_from, power_cancel}
use Rattle.exact.proofs.Root.{root_below_power, root_above_power}

pub record Sound (x : Bracket) : Type 0 where
  pub defined : x.defined ≡ true
  pub ordered : x.low ⊑ x.high

abbrev pub Positive : Bracket → Type 0
Positive x = zero < x.low.num

and_true : {a b : Bool} → a ≡ true → b ≡ true → (a && b) ≡ true
and_true h k = rw h k

divides_by : (y : Bracket) → Positive y → y.low ⊑ y.high → divides y ≡ true
unfolding divides above_0
divides_by y p h = and_true (lt-ltb 0 y.low.num p) (lt-ltb 0 y.high.num (above_from p h))

pub constant_sound : (n d : ℕ) → zero < d → Sound (constant n d)
unfolding constant
constant_sound n d p = record { defined = lt-ltb 0 d p; ordered = ⊑_refl }

pub sum_sound : {x y : Bracket} → Sound x → Sound y → Sound (sum x y)
unfolding sum
sum_sound h k = record { defined = and_true h.defined k.defined; ordered = ⊕-mono h.ordered k.ordered }

pub difference_sound : {x y : Bracket} → Sound x → Sound y → Sound (difference x y)
unfolding difference
difference_sound h k = record { defined = and_true h.defined k.defined; ordered = ⊖-mono h.ordered k.ordered }

pub product_sound : {x y : Bracket} → Sound x → Sound y → Sound (product x y)
unfolding product
product_sound h k = record { defined = and_true h.defined k.defined; ordered = ⊗-mono h.ordered k.ordered }

pub quotient_sound : {x y : Bracket} → Positive y → Sound x → Sound y → Sound (quotient x y)
unfolding quotient
quotient_sound p h k =
    record {
      defined = and_true h.defined (and_true k.defined (divides_by _ p k.ordered));
      ordered = ⊘-mono p h.ordered k.ordered;
    }

pub times_sound : (n : ℕ) {x : Bracket} → Sound x → Sound (times x n)
unfolding times
times_sound n h = record { defined = h.defined; ordered = ⊗-mono h.ordered ⊑_refl }

pub over_sound : (n : ℕ) → zero < n → {x : Bracket} → Sound x → Sound (over x n)
unfolding over
over_sound n p h =
    record { defined = and_true h.defined (lt-ltb 0 n p); ordered = over_mono n n p (le_refl n) h.ordered }

pub root_sound : (k n : ℕ) {x : Bracket} → Sound x → Sound (root (suc k) n x)
unfolding root
root_sound k n {x} h =
    record {
      defined = h.defined;
      ordered = power_cancel k (root_below_power k n x.low ⟫ h.ordered ⟫ root_above_power k n x.high);
    }

pub high_only_sound : {x : Bracket} → Sound x → Sound (high_only x)
unfolding high_only
high_only_sound h = record { defined = h.defined; ordered = 0_least }

pub unless_cold_sound : {x : Bracket} (y : Bracket) → Sound x → Sound (unless_cold y x)
unfolding unless_cold
unless_cold_sound y h = record { defined = h.defined; ordered = h.ordered }

-- ---- one end of a bracket: sums, products and quotients by a whole number go end by end
pub record End (end : Bracket → Fraction) : Type 0 where
  pub sum_at : (x y : Bracket) → end (sum x y) ≡ end x ⊕ end y
  pub product_at : (x y : Bracket) → end (product x y) ≡ end x ⊗ end y
  pub over_at : (x : Bracket) (n : ℕ) → end (over x n) ≡ end x ⊘ whole n

pub low_end : End (λ x. x.low)
unfolding sum product over
low_end = record { sum_at = λ x y. refl; product_at = λ x y. refl; over_at = λ x n. refl }

pub high_end : End (λ x. x.high)
unfolding sum product over
high_end = record { sum_at = λ x y. refl; product_at = λ x y. refl; over_at = λ x n. refl }
