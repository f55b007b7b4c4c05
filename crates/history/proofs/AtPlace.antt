-- The pool at a place of sound places: it is the one that is looked up by its number, and no other place has that number. By induction over
-- the places. Assumes nothing.
use mathlib.Core.Path.{◌≡◌, refl, sym, ap, ◌∙◌, subst}
use mathlib.Core.Bool.{true, true≢false}
use mathlib.Core.Option.{some}
use mathlib.Core.List.{List, [], ◌∷◌}
use Prim.Native.Nat.{ℕ, zero, suc, ◌<◌}
use native.Mathlib.Omega.{arith}
use native.Mathlib.Decide.{ℕ_discrete}
use lib.ListN.{length}
use Rattle.register.specs.declared.places.BurningPool.{BurningPool}
use Rattle.register.specs.Places.{has}
use Rattle.history.specs.Claims.{AsLit}
use Rattle.register.proofs.ByNumber.{first_of, pool_at, has_here, has_later, first_here, first_later, has_none, by_number}
use Rattle.history.proofs.Lookup.{lookup, lookup_here, lookup_later, Sound}

-- A pool stands at i, and is the one that is looked up.
pub record FoundAt (n : ℕ) (ps : List BurningPool) (i : ℕ) : Type 0 where
  pub there : i < length ps
  pub number : (pool_at ps i).number ≡ n
  pub looked_up : lookup n ps ≡ some (pool_at ps i).enquiry

-- In the first place of its number.
pub found : (n : ℕ) (ps : List BurningPool) → has n ps ≡ true → FoundAt n ps (first_of n ps)
found n =
    by_number n (λ ps. has n ps ≡ true → FoundAt n ps (first_of n ps)) (λ t. absurd (true≢false (sym t ∙ has_none n)))
    (λ p ps e rest t.
    subst (FoundAt n (p ∷ ps)) (sym (first_here n p ps e)) (record { there = omega arith; number = e; looked_up = lookup_here n p ps e }))
    (λ p ps e rest t.
    let later = rest (sym (has_later n p ps e) ∙ t) in
    subst (FoundAt n (p ∷ ps)) (sym (first_later n p ps e))
    (record { there = omega (arith, later.there); number = later.number; looked_up = lookup_later n p ps e ∙ later.looked_up }))

-- ---- any place
has_at : (ps : List BurningPool) (i : ℕ) → i < length ps → has (pool_at ps i).number ps ≡ true
has_at [] i l = absurd (omega arith)
has_at (p ∷ ps) zero l = has_here p.number p ps refl
has_at (p ∷ ps) (suc i) l =
    elim (ℕ_discrete p.number (pool_at ps i).number) [
      | yes e ↦ has_here _ p ps e
      | no e ↦ has_later _ p ps e ∙ has_at ps i (omega arith)
    ]

pub lit_at : (ps : List BurningPool) → Sound ps → (i : ℕ) → i < length ps → ((pool_at ps i).number ≡ 0 → ⊥) → AsLit (pool_at ps i)
lit_at [] s i l k = absurd (omega arith)
lit_at (p ∷ ps) s zero l k = (s.0 k).lit
lit_at (p ∷ ps) s (suc i) l k = lit_at ps s.1 i (omega arith) k

-- The first of sound places has another number than any after it.
apart : (p : BurningPool) (ps : List BurningPool) → Sound (p ∷ ps) → (i : ℕ) → i < length ps → (p.number ≡ 0 → ⊥) → p.number ≡ (pool_at ps i).number → ⊥
apart p ps s i l k e = true≢false (sym (subst (λ n. has n ps ≡ true) (sym e) (has_at ps i l)) ∙ (s.0 k).new)

pub looked_up_at :
    (ps : List BurningPool) → Sound ps → (i : ℕ) → i < length ps → ((pool_at ps i).number ≡ 0 → ⊥)
    → lookup (pool_at ps i).number ps ≡ some (pool_at ps i).enquiry
looked_up_at [] s i l k = absurd (omega arith)
looked_up_at (p ∷ ps) s zero l k = lookup_here p.number p ps refl
looked_up_at (p ∷ ps) s (suc i) l k =
    lookup_later _ p ps (λ e. apart p ps s i (omega arith) (λ z. k (sym e ∙ z)) e) ∙ looked_up_at ps s.1 i (omega arith) k

pub once_at :
    (ps : List BurningPool) → Sound ps → (i j : ℕ) → i < length ps → j < length ps → ((pool_at ps i).number ≡ 0 → ⊥)
    → (pool_at ps i).number ≡ (pool_at ps j).number → i ≡ j
once_at [] s i j l h k e = absurd (omega arith)
once_at (p ∷ ps) s zero zero l h k e = refl
once_at (p ∷ ps) s zero (suc j) l h k e = absurd (apart p ps s j (omega arith) k e)
once_at (p ∷ ps) s (suc i) zero l h k e = absurd (apart p ps s i (omega arith) (λ z. k (e ∙ z)) (sym e))
once_at (p ∷ ps) s (suc i) (suc j) l h k e = ap suc (once_at ps s.1 i j (omega arith) (omega arith) k e)
