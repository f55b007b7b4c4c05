-- Which case of the enum the ends of an answer are: by its state. Assumes nothing.
use mathlib.Core.Path.{◌≡◌, refl}
use Prim.Native.Nat.{ℕ, zero, suc}
use Rattle.chain.specs.Flux.{Shown}
use Rattle.drawing.specs.declared.figures.Ends.TheVariants.{Answered, Refused}
use Rattle.drawing.specs.Floats.{float}
use Rattle.drawing.specs.Figures.{ends}

pub answered : (a : Shown) → a.state ≡ 0 → ends a ≡ Answered (float a.low) (float a.high)
answered a e = rw e

pub refused : (a : Shown) → (a.state ≡ 0 → ⊥) → ends a ≡ Refused a.state
refused a = by_state a.state a.low a.high
  where
    by_state : (n low high : ℕ) → (n ≡ 0 → ⊥) → ends (record { state = n; low = low; high = high; note = 0 }) ≡ Refused n
    by_state zero low high h = absurd (h refl)
    by_state (suc n) low high h = refl
