-- Intervals one after another, each with a test: if all tests pass, what a test says of its interval holds of every number.
-- By induction over the intervals. Assumes nothing.
use mathlib.Core.Bool.{Bool, true, false}
use mathlib.Core.Logic.{◌⊎◌, inl, inr}
use Prim.Native.Nat.{ℕ, zero, suc, ◌≤◌, ◌<◌}
use native.Mathlib.Nat.{le_of_lt, lt_of_not-le}
use native.Mathlib.Decide.{dec_le}
use native.Mathlib.Omega.{arith}
use lib.Dec.{T, leb, leb→le}

-- The test on [a, next a], [next a, next (next a)], .. up to z, on at most n intervals.
unfoldable pub sweep : (ℕ → ℕ → Bool) → (ℕ → ℕ) → ℕ → ℕ → ℕ → Bool
sweep test next zero a z = leb z a
sweep test next (suc n) a z =
    elim (leb z a) [ true ↦ true | false ↦ elim (test a (next a)) [ true ↦ sweep test next n (next a) z | false ↦ false ] ]

-- A choice that holds: by its first outcome or by its second.
chosen : (b x y : Bool) → T (elim b [ true ↦ x | false ↦ y ]) → (T b × T x) ⊎ T y
chosen true x y t = inl (tt, t)
chosen false x y t = inr t

both : (b x : Bool) → T (elim b [ true ↦ x | false ↦ false ]) → T b × T x
both true x t = (tt, t)
both false x t = absurd t

past : (i a z : ℕ) → z ≤ a → a ≤ i → i < z → ⊥
past i a z h l u = omega arith

pub swept : (test : ℕ → ℕ → Bool) (next : ℕ → ℕ) (P : ℕ → Type 0) → ((a b : ℕ) → T (test a b) → (i : ℕ) → a ≤ i → i ≤ b → P i) → (n a z : ℕ) → T (sweep test next n a z) → (i : ℕ) → a ≤ i → i < z → P i
unfolding sweep
swept test next P sound zero a z t i l u = absurd (past i a z (leb→le z a t) l u)
swept test next P sound (suc n) a z t i l u =
    let rest : Bool = sweep test next n (next a) z in
    elim (chosen (leb z a) true (elim (test a (next a)) [ true ↦ rest | false ↦ false ]) t) [
      | inl p ↦ absurd (past i a z (leb→le z a p.0) l u)
      | inr r ↦
          elim (dec_le i (next a)) [
            | yes h ↦ sound a (next a) (both (test a (next a)) rest r).0 i l h
            | no h ↦ swept test next P sound n (next a) z (both (test a (next a)) rest r).1 i (le_of_lt (lt_of_not-le h)) u
          ]
    ]
