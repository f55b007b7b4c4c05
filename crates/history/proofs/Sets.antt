-- The set after a call: what it leaves at its own number where it is accepted, and every other number as it was. The sums are those of the set,
-- a call makes at most one more burn, and a pool that burns can be put out. From the claims of the register. Assumes nothing.
use mathlib.Core.Path.{◌≡◌, refl, sym, ap, ◌∙◌}
use mathlib.Core.Bool.{true, false, ◌&&◌}
use mathlib.Core.Option.{Option, none, some}
use mathlib.Core.List.{List, ◌∷◌}
use Prim.Native.Nat.{ℕ, zero, suc, ◌≤◌, ◌<◌}
use native.Mathlib.Omega.{arith}
use lib.Dec.{eqb}
use Rattle.chain.specs.declared.enquiry.Enquiry.{Enquiry}
use Rattle.chain.specs.Flux.{flux_of}
use Rattle.register.specs.declared.sums.Totals.{Totals}
use Rattle.register.specs.Sums.{sums_of}
use Rattle.history.specs.History.{Call, PutOut, called, after, history, about, leaves, lit_with, over_numbers, afresh}
use Rattle.history.specs.OrderClaims.{set_after, SameSetAndSums}
use Rattle.history.proofs.Afresh.{same_sum, at_most_one_more}
use Rattle.history.proofs.Follows.{after_refused, after_accepted, after_other}
use Rattle.history.proofs.Due.{due_out}
use Rattle.history.proofs.Claims.{claims}

-- A call in the history, with the state it was answered.
history_next : (calls : List Call) (c : Call) (s : ℕ) → (called (after calls) c).state ≡ s → history (c ∷ calls) ≡ record { call = c; state = s } ∷ history calls
unfolding history
history_next calls c s e = ap (λ t. record { call = c; state = t } ∷ history calls) e

module _ (calls : List Call) (c : Call) (n : ℕ) where
  pub set_accepted : (called (after calls) c).state ≡ 0 → about c ≡ n → set_after (c ∷ calls) n ≡ leaves c
  set_accepted e own = ap (lit_with n) (history_next calls c 0 e) ∙ after_accepted c (history calls) n own

  pub set_refused : (s : ℕ) → 0 < s → (called (after calls) c).state ≡ s → set_after (c ∷ calls) n ≡ set_after calls n
  set_refused s p e = ap (lit_with n) (history_next calls c s e) ∙ after_refused c (history calls) n s p

  -- Of another number, whatever the call is answered.
  pub set_other : (about c ≡ n → ⊥) → set_after (c ∷ calls) n ≡ set_after calls n
  set_other different = by_state (called (after calls) c).state refl
    where
      by_state : (s : ℕ) → (called (after calls) c).state ≡ s → set_after (c ∷ calls) n ≡ set_after calls n
      by_state zero e = ap (lit_with n) (history_next calls c 0 e) ∙ after_other c (history calls) n different
      by_state (suc s) e = set_refused (suc s) (omega arith) e

-- The same call, answered the same, on the same pool.
pub set_alike :
    (these those : List Call) (c : Call) (n : ℕ) → (called (after these) c).state ≡ (called (after those) c).state → set_after these n ≡ set_after those n
    → set_after (c ∷ these) n ≡ set_after (c ∷ those) n
unfolding history lit_with
set_alike these those c n states pools =
    ap (λ (s : ℕ). elim (eqb s 0 && eqb (about c) n) [ true ↦ leaves c | false ↦ set_after these n ]) states
    ∙ ap (λ (p : Option Enquiry). elim (eqb (called (after those) c).state 0 && eqb (about c) n) [ true ↦ leaves c | false ↦ p ]) pools

-- ---- the sums are those of the set
pub same_by_set : (these those : List Call) → ((n : ℕ) → set_after these n ≡ set_after those n) → SameSetAndSums these those
same_by_set these those same = record { set = same; sums = claims.sums these ∙ worked_afresh ∙ sym (claims.sums those) }
  where
    summed : (figure : Enquiry → ℕ) → over_numbers figure (set_after these) 255 ≡ over_numbers figure (set_after those) 255
    summed figure = same_sum figure (set_after these) (set_after those) 255 (λ m l h. same m)

    worked_afresh : afresh (history these) ≡ afresh (history those)
    worked_afresh = cc (summed (λ E. 1), summed (λ E. (flux_of E).low), summed (λ E. (flux_of E).high))

-- ---- how many burn
abbrev burning_after : List Call → ℕ
burning_after calls = (sums_of (after calls)).burning

pub burning_afresh : (calls : List Call) → burning_after calls ≡ (afresh (history calls)).burning
burning_afresh calls = ap (λ (t : Totals). t.burning) (claims.sums calls)

pub at_most_one_more_burns : (calls : List Call) (c : Call) → burning_after (c ∷ calls) ≤ suc (burning_after calls)
at_most_one_more_burns calls c =
    let more = at_most_one_more (set_after calls) (set_after (c ∷ calls)) (about c) (λ n different. sym (set_other calls c n different)) 255 in
    omega (arith, burning_afresh calls, burning_afresh (c ∷ calls), more)

-- ---- put out
module _ (calls : List Call) (number : ℕ) where
  pub burning_goes_out : (E : Enquiry) → set_after calls number ≡ some E → (called (after calls) (PutOut number)).state ≡ 0
  burning_goes_out E e =
      let b = claims.lit calls number E e in
      let at = claims.as_lit calls b.place b.there (omega (arith, b.least, b.number_there)) in
      claims.answered calls (PutOut number) ∙ due_out (history calls) number E b.least (omega (arith, at.most, b.number_there)) e

  -- It is out then, also where the call is refused.
  pub out_after_put_out : set_after (PutOut number ∷ calls) number ≡ none
  out_after_put_out = by_pool (set_after calls number) refl
    where
      by_state : set_after calls number ≡ none → (s : ℕ) → (called (after calls) (PutOut number)).state ≡ s → set_after (PutOut number ∷ calls) number ≡ none
      by_state e zero z = set_accepted calls (PutOut number) number z refl
      by_state e (suc s) z = set_refused calls (PutOut number) number (suc s) (omega arith) z ∙ e

      by_pool : (p : Option Enquiry) → set_after calls number ≡ p → set_after (PutOut number ∷ calls) number ≡ none
      by_pool none e = by_state e (called (after calls) (PutOut number)).state refl
      by_pool (some E) e = set_accepted calls (PutOut number) number (burning_goes_out E e) refl
