-- A lent slice: which case of the definition holds, and what the number returned says of the elements. By the state that reading gives
-- and the test of the room. Assumes nothing.
use mathlib.Core.Path.{◌≡◌, refl, ap, ◌∙◌}
use mathlib.Core.Bool.{Bool, true, false}
use mathlib.Core.List.{List, [], ◌++◌}
use Prim.Native.Nat.{ℕ, zero, suc, ◌*◌, ◌≤◌, ◌<◌}
use native.Mathlib.Nat.{mul-zero}
use native.Mathlib.Omega.{arith}
use lib.ListN.{length, drop}
use lib.Dec.{ltb}
use borrow.Author.Tests.{lt-ltb, le-ltb}
use Rattle.pairs.specs.Figures.{refuse}
use Rattle.sheet.specs.Reading.{Outcome}
use Rattle.sheet.specs.Lent.{untouched, with_room, lent}

module _ {A : Type 0} (size : ℕ) (elements : ℕ → List A) where
  -- What the slice holds afterwards where there is room.
  abbrev pub filled_with : ℕ → List A → List A
  filled_with t out = elements t ++ drop (size * t) out

  -- ---- by the room
  pub no_room : (t : ℕ) (out : List A) → length out < size * t → untouched 31 out ≡ with_room size elements t out
  unfolding with_room
  no_room t out h = rw (lt-ltb (length out) (size * t) h)

  pub room : (t : ℕ) (out : List A) → size * t ≤ length out → record { number = 0; elements = filled_with t out } ≡ with_room size elements t out
  unfolding with_room
  room t out h = rw (le-ltb (length out) (size * t) h)

  -- ---- by the state: a refused sheet has no target, and no target has no elements
  module _ (o : Outcome) (none : (n : ℕ) → o.state ≡ suc n → o.targets ≡ 0) where
    pub short : (out : List A) → length out < size * o.targets → untouched 31 out ≡ lent o size elements out
    short out h = by_state o.state none
      where
        by_state : (n : ℕ) → ((k : ℕ) → n ≡ suc k → o.targets ≡ 0) → untouched 31 out ≡ lent (record { state = n; fuels = 0; pools = 0; targets = o.targets }) size elements out
        by_state zero e = no_room o.targets out h
        by_state (suc n) e = absurd (let nothing : size * o.targets ≡ 0 = ap (λ (t : ℕ). size * t) (e n refl) ∙ mul-zero size in omega arith)

    pub ample :
        elements 0 ≡ [] → (out : List A) → size * o.targets ≤ length out
        → record { number = o.state; elements = filled_with o.targets out } ≡ lent o size elements out
    ample empty out h = by_state o.state none
      where
        by_state :
            (n : ℕ) → ((k : ℕ) → n ≡ suc k → o.targets ≡ 0)
            → record { number = n; elements = filled_with o.targets out } ≡ lent (record { state = n; fuels = 0; pools = 0; targets = o.targets }) size elements out
        by_state zero e = room o.targets out h
        by_state (suc n) e = rw (e n refl, empty, mul-zero size)

  -- ---- by the number that is returned
  by_room :
      (b : Bool) (t : ℕ) (out : List A) → (refuse b (untouched 31 out) (record { number = 0; elements = filled_with t out })).number ≡ 0
      → (refuse b (untouched 31 out) (record { number = 0; elements = filled_with t out })).elements ≡ filled_with t out
  by_room true t out e = absurd (omega arith)
  by_room false t out e = refl

  pub returned_0 : (o : Outcome) (out : List A) → (lent o size elements out).number ≡ 0 → (o.state ≡ 0) × ((lent o size elements out).elements ≡ filled_with o.targets out)
  returned_0 o out = by_state o.state o.targets
    where
      by_state :
          (n t : ℕ) → (lent (record { state = n; fuels = 0; pools = 0; targets = t }) size elements out).number ≡ 0
          → (n ≡ 0) × ((lent (record { state = n; fuels = 0; pools = 0; targets = t }) size elements out).elements ≡ filled_with t out)
      by_state zero t e = unfold with_room in (refl, by_room (ltb (length out) (size * t)) t out e)
      by_state (suc n) t e = absurd (omega arith)

  kept_room :
      (b : Bool) (rest out : List A) (n : ℕ) → (refuse b (untouched 31 out) (record { number = 0; elements = rest })).number ≡ suc n
      → (refuse b (untouched 31 out) (record { number = 0; elements = rest })).elements ≡ out
  kept_room true rest out n e = refl
  kept_room false rest out n e = absurd (omega arith)

  -- "Then nothing is written."
  pub kept : (o : Outcome) (out : List A) (n : ℕ) → (lent o size elements out).number ≡ suc n → (lent o size elements out).elements ≡ out
  kept o out n = by_state o.state o.targets
    where
      by_state :
          (m t : ℕ) → (lent (record { state = m; fuels = 0; pools = 0; targets = t }) size elements out).number ≡ suc n
          → (lent (record { state = m; fuels = 0; pools = 0; targets = t }) size elements out).elements ≡ out
      by_state zero t e = unfold with_room in kept_room (ltb (length out) (size * t)) (filled_with t out) out n e
      by_state (suc m) t e = refl
