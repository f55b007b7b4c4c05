-- The pool of a number among the places: its enquiry, in the first place that has the number; and what another pool in the first place of
-- a number makes of it. Sound places have no number twice, and each pool has the figures of its flux. By induction over the places.
-- Assumes nothing.
use mathlib.Core.Path.{◌≡◌, refl, sym, ap, ◌∙◌, subst}
use mathlib.Core.Bool.{true, false, true≢false}
use mathlib.Core.Option.{Option, none, some}
use mathlib.Core.List.{List, [], ◌∷◌}
use Prim.Native.Nat.{ℕ}
use native.Mathlib.Decide.{ℕ_discrete}
use lib.Dec.{eqb}
use borrow.Author.Tests.{eq-eqb, ne_eqb}
use Rattle.chain.specs.declared.enquiry.Enquiry.{Enquiry}
use Rattle.register.specs.declared.places.BurningPool.{BurningPool}
use Rattle.register.specs.Places.{has}
use Rattle.register.specs.Calls.{replaced}
use Rattle.history.specs.History.{is_lit}
use Rattle.history.specs.Claims.{AsLit}
use Rattle.register.proofs.ByNumber.{has_here, has_later, not_here, not_later, replaced_here, replaced_later, has_none, replaced_none, by_number}

unfoldable pub lookup : ℕ → List BurningPool → Option Enquiry
lookup n [] = none
lookup n (p ∷ ps) = elim (eqb p.number n) [ true ↦ some p.enquiry | false ↦ lookup n ps ]

module _ (n : ℕ) (p : BurningPool) (ps : List BurningPool) where
  pub lookup_here : p.number ≡ n → lookup n (p ∷ ps) ≡ some p.enquiry
  unfolding lookup
  lookup_here e = rw (eq-eqb _ _ e, lookup)

  pub lookup_later : (p.number ≡ n → ⊥) → lookup n (p ∷ ps) ≡ lookup n ps
  unfolding lookup
  lookup_later e = rw (ne_eqb _ _ e, lookup)

pub lookup_none : (n : ℕ) → lookup n [] ≡ none
unfolding lookup
lookup_none n = refl

-- A pool burns where it is looked up.
pub has_lookup : (n : ℕ) (ps : List BurningPool) → has n ps ≡ is_lit (lookup n ps)
has_lookup n =
    by_number n (λ ps. has n ps ≡ is_lit (lookup n ps)) (has_none n ∙ ap is_lit (sym (lookup_none n)))
    (λ p ps e rest. has_here n p ps e ∙ ap is_lit (sym (lookup_here n p ps e)))
    (λ p ps e rest. has_later n p ps e ∙ rest ∙ ap is_lit (sym (lookup_later n p ps e)))

pub no_lookup : (n : ℕ) (ps : List BurningPool) → has n ps ≡ false → lookup n ps ≡ none
no_lookup n ps h = by_pool (lookup n ps) (sym (has_lookup n ps) ∙ h)
  where
    by_pool : (p : Option Enquiry) → is_lit p ≡ false → p ≡ none
    by_pool none e = refl
    by_pool (some E) e = absurd (true≢false e)

-- ---- another pool in the first place of a number
module _ (n : ℕ) (pool : BurningPool) where
  -- A number that neither had has no place.
  has_replaced :
      (m : ℕ) → (pool.number ≡ m → ⊥) → (ps : List BurningPool) → has m ps ≡ false → has m (replaced n pool ps) ≡ false
  has_replaced m other =
      by_number n (λ ps. has m ps ≡ false → has m (replaced n pool ps) ≡ false) (λ h. ap (has m) (replaced_none n pool) ∙ h)
      (λ p ps e rest h. ap (has m) (replaced_here n p ps e pool) ∙ has_later m pool ps other ∙ not_later m p ps h)
      (λ p ps e rest h.
      ap (has m) (replaced_later n p ps e pool) ∙ has_later m p (replaced n pool ps) (not_here m p ps h) ∙ rest (not_later m p ps h))

  -- Of another number the pool is what it was.
  pub lookup_other :
      (m : ℕ) → (pool.number ≡ m → ⊥) → (n ≡ m → ⊥) → (ps : List BurningPool) → lookup m (replaced n pool ps) ≡ lookup m ps
  lookup_other m other another =
      by_number n (λ ps. lookup m (replaced n pool ps) ≡ lookup m ps) (ap (lookup m) (replaced_none n pool))
      (λ p ps e rest.
      ap (lookup m) (replaced_here n p ps e pool) ∙ lookup_later m pool ps other ∙ sym (lookup_later m p ps (λ k. another (sym e ∙ k))))
      (λ p ps e rest. ap (lookup m) (replaced_later n p ps e pool) ∙ same p (replaced n pool ps) ps rest)
    where
      same : (p : BurningPool) (qs ps : List BurningPool) → lookup m qs ≡ lookup m ps → lookup m (p ∷ qs) ≡ lookup m (p ∷ ps)
      same p qs ps rest =
          elim (ℕ_discrete p.number m) [
            | yes k ↦ lookup_here m p qs k ∙ sym (lookup_here m p ps k)
            | no k ↦ lookup_later m p qs k ∙ rest ∙ sym (lookup_later m p ps k)
          ]

  -- The pool itself is found, where its number had no place.
  pub lookup_pool :
      (ps : List BurningPool) → has n ps ≡ true → has pool.number ps ≡ false → lookup pool.number (replaced n pool ps) ≡ some pool.enquiry
  lookup_pool =
      by_number n (λ ps. has n ps ≡ true → has pool.number ps ≡ false → lookup pool.number (replaced n pool ps) ≡ some pool.enquiry)
      (λ t h. absurd (true≢false (sym t ∙ has_none n)))
      (λ p ps e rest t h. ap (lookup pool.number) (replaced_here n p ps e pool) ∙ lookup_here pool.number pool ps refl)
      (λ p ps e rest t h.
      ap (lookup pool.number) (replaced_later n p ps e pool)
      ∙ lookup_later pool.number p (replaced n pool ps) (not_here pool.number p ps h)
      ∙ rest (sym (has_later n p ps e) ∙ t) (not_later pool.number p ps h))

-- ---- sound places
-- A pool that may stand beside these places.
pub record Beside (p : BurningPool) (ps : List BurningPool) : Type 0 where
  pub lit : AsLit p
  pub new : has p.number ps ≡ false

abbrev pub Sound : List BurningPool → Type 0
Sound [] = Unit
Sound (p ∷ ps) = ((p.number ≡ 0 → ⊥) → Beside p ps) × Sound ps

beside_later : (pool p : BurningPool) (ps : List BurningPool) → Beside pool (p ∷ ps) → Beside pool ps
beside_later pool p ps b = record { lit = b.lit; new = not_later pool.number p ps b.new }

module _ (n : ℕ) (pool : BurningPool) where
  -- A place stays sound beside the new pool.
  beside_replaced :
      (p : BurningPool) (ps : List BurningPool) → ((pool.number ≡ 0 → ⊥) → Beside pool (p ∷ ps)) → Sound (p ∷ ps) → (p.number ≡ 0 → ⊥)
      → Beside p (replaced n pool ps)
  beside_replaced p ps b s k =
      let other : pool.number ≡ p.number → ⊥ = λ h. not_here pool.number p ps (b (λ z. k (sym h ∙ z))).new (sym h) in
      record { lit = (s.0 k).lit; new = has_replaced n pool p.number other ps (s.0 k).new }

  pub sound_replaced : (ps : List BurningPool) → ((pool.number ≡ 0 → ⊥) → Beside pool ps) → Sound ps → Sound (replaced n pool ps)
  sound_replaced =
      by_number n (λ ps. ((pool.number ≡ 0 → ⊥) → Beside pool ps) → Sound ps → Sound (replaced n pool ps))
      (λ b s. subst Sound (sym (replaced_none n pool)) tt)
      (λ p ps e rest b s.
      subst Sound (sym (replaced_here n p ps e pool)) (λ k. beside_later pool p ps (b k), s.1))
      (λ p ps e rest b s. subst Sound (sym (replaced_later n p ps e pool)) (beside_replaced p ps b s, rest (λ k. beside_later pool p ps (b k)) s.1))

  -- The number is out where its first place is vacant.
  pub lookup_out : pool.number ≡ 0 → (n ≡ 0 → ⊥) → (ps : List BurningPool) → Sound ps → lookup n (replaced n pool ps) ≡ none
  lookup_out z k =
      by_number n (λ ps. Sound ps → lookup n (replaced n pool ps) ≡ none) (λ s. ap (lookup n) (replaced_none n pool) ∙ lookup_none n)
      (λ p ps e rest s.
      ap (lookup n) (replaced_here n p ps e pool) ∙ lookup_later n pool ps (λ h. k (sym h ∙ z))
      ∙ no_lookup n ps (subst (λ m. has m ps ≡ false) e (s.0 (λ h. k (sym e ∙ h))).new))
      (λ p ps e rest s. ap (lookup n) (replaced_later n p ps e pool) ∙ lookup_later n p (replaced n pool ps) e ∙ rest s.1)
