-- A list of places by its first place: what each definition makes of it, where that place has the number and where it has another; and
-- induction over the places by these two. Assumes nothing.
use mathlib.Core.Path.{◌≡◌, refl, sym, ◌∙◌}
use mathlib.Core.Bool.{true, false, cond, true≢false}
use mathlib.Core.List.{List, [], ◌∷◌}
use Prim.Native.Nat.{ℕ, zero, suc, ◌+◌}
use native.Mathlib.Decide.{ℕ_discrete}
use lib.Dec.{eqb}
use lib.ListN.{get_or}
use native.Mathlib.Omega.{arith}
use borrow.Author.Tests.{eq-eqb, ne_eqb}
use Rattle.register.specs.declared.places.BurningPool.{BurningPool}
use Rattle.register.specs.Places.{vacant, has}
use Rattle.register.specs.Sums.{over_burning}
use Rattle.register.specs.Calls.{replaced}
use Rattle.std.specs.List.{position_or_len, sum_by}
use Rattle.std.proofs.lemmas.List.Sums.{sum_by-cons}

-- The pool at a place.
abbrev pub pool_at : List BurningPool → ℕ → BurningPool
pool_at ps i = get_or ps i vacant

-- The first place that has a number, counted from 0; how many places there are where none has it.
abbrev pub first_of : ℕ → List BurningPool → ℕ
first_of n ps = position_or_len (λ p. eqb p.number n) ps

module _ (n : ℕ) (p : BurningPool) (ps : List BurningPool) where
  -- ---- it has the number
  module _ (e : p.number ≡ n) where
    pub has_here : has n (p ∷ ps) ≡ true
    unfolding has
    has_here = rw (eq-eqb _ _ e, has)

    pub first_here : first_of n (p ∷ ps) ≡ zero
    first_here = rw (eq-eqb _ _ e)

    pub replaced_here : (pool : BurningPool) → replaced n pool (p ∷ ps) ≡ pool ∷ ps
    unfolding replaced
    replaced_here pool = rw (eq-eqb _ _ e, replaced)

  -- ---- it has another
  module _ (e : p.number ≡ n → ⊥) where
    pub has_later : has n (p ∷ ps) ≡ has n ps
    unfolding has
    has_later = rw (ne_eqb _ _ e, has)

    pub first_later : first_of n (p ∷ ps) ≡ suc (first_of n ps)
    first_later = rw (ne_eqb _ _ e) (omega arith)

    pub replaced_later : (pool : BurningPool) → replaced n pool (p ∷ ps) ≡ p ∷ replaced n pool ps
    unfolding replaced
    replaced_later pool = rw (ne_eqb _ _ e, replaced)

  -- ---- no place has it
  module _ (h : has n (p ∷ ps) ≡ false) where
    pub not_here : p.number ≡ n → ⊥
    not_here e = true≢false (sym (has_here e) ∙ h)

    pub not_later : has n ps ≡ false
    not_later = sym (has_later not_here) ∙ h

module _ (figure : BurningPool → ℕ) (p : BurningPool) (ps : List BurningPool) where
  pub sum_vacant : p.number ≡ 0 → over_burning figure (p ∷ ps) ≡ over_burning figure ps
  unfolding over_burning
  sum_vacant e = rw (eq-eqb _ _ e, over_burning)

  pub sum_burning : (p.number ≡ 0 → ⊥) → over_burning figure (p ∷ ps) ≡ figure p + over_burning figure ps
  unfolding over_burning
  sum_burning e = rw (ne_eqb _ _ e, over_burning)

-- ---- there is no place
pub has_none : (n : ℕ) → has n [] ≡ false
unfolding has
has_none n = refl

pub replaced_none : (n : ℕ) (pool : BurningPool) → replaced n pool [] ≡ []
unfolding replaced
replaced_none n pool = refl

pub sum_none : (figure : BurningPool → ℕ) → over_burning figure [] ≡ 0
unfolding over_burning
sum_none figure = refl

-- A sum over the burning pools is one over all places, with 0 for a vacant one.
abbrev pub counted : (BurningPool → ℕ) → BurningPool → ℕ
counted figure p = cond (eqb p.number 0) 0 (figure p)

pub sum_counted : (figure : BurningPool → ℕ) (ps : List BurningPool) → sum_by (counted figure) ps ≡ over_burning figure ps
sum_counted figure [] = sym (sum_none figure)
sum_counted figure (p ∷ ps) =
    sum_by-cons (counted figure) p ps ∙ elim (ℕ_discrete p.number 0) [
      | yes e ↦ rw (eq-eqb _ _ e, sum_counted figure ps) (omega (arith, sum_vacant figure p ps e))
      | no e ↦ rw (ne_eqb _ _ e, sum_counted figure ps) (omega (arith, sum_burning figure p ps e))
    ]

pub by_number :
    (n : ℕ) (P : List BurningPool → Type 0) → P []
    → ((p : BurningPool) (ps : List BurningPool) → p.number ≡ n → P ps → P (p ∷ ps))
    → ((p : BurningPool) (ps : List BurningPool) → (p.number ≡ n → ⊥) → P ps → P (p ∷ ps))
    → (ps : List BurningPool) → P ps
by_number n P none here later [] = none
by_number n P none here later (p ∷ ps) =
    let rest = by_number n P none here later ps in
    elim (ℕ_discrete p.number n) [ yes e ↦ here p ps e rest | no e ↦ later p ps e rest ]
