-- What is claimed of the register. From the register that follows its calls, by the laws of sound places. Assumes nothing.
use mathlib.Core.Path.{◌≡◌, refl, sym, ap, ◌∙◌}
use mathlib.Core.Bool.{true≢false}
use mathlib.Core.Option.{some, some-injective}
use mathlib.Core.List.{List, ◌∷◌}
use Prim.Native.Nat.{ℕ, zero, suc, ◌≤◌, ◌<◌}
use native.Mathlib.Omega.{arith}
use Rattle.chain.specs.declared.enquiry.Enquiry.{Enquiry}
use Rattle.chain.specs.Flux.{flux_of}
use Rattle.chain.proofs.Limits.{between}
use Rattle.register.specs.declared.places.BurningPool.{BurningPool}
use Rattle.register.specs.declared.places.Register.{Register}
use Rattle.register.specs.declared.sums.Totals.{Totals}
use Rattle.register.specs.Places.{has}
use Rattle.register.specs.Sums.{over_burning, how_many, sums_of}
use Rattle.history.specs.History.{Call, Light, PutOut, called, after, history, lit_with, is_lit, over_numbers, afresh, due}
use Rattle.history.specs.Claims.{place_at, Burns, AsLit, Claims}
use Rattle.register.proofs.FirstPlace.{most_burn, one_less}
use Rattle.register.proofs.Outcomes.{by_light, by_put_out}
use Rattle.history.proofs.Lookup.{lookup, has_lookup}
use Rattle.history.proofs.Afresh.{same_sum, sum_by_number}
use Rattle.history.proofs.Follows.{Follows, follows}
use Rattle.history.proofs.AtPlace.{FoundAt, found, lit_at, looked_up_at, once_at}
use Rattle.history.proofs.Due.{answered_due, only_full}

module _ (calls : List Call) where
  abbrev R : Register
  R = after calls

  f : Follows R (history calls)
  f = follows calls

  burning : (n : ℕ) → 1 ≤ n → has n R.places ≡ is_lit (lit_with n (history calls))
  burning n l = has_lookup n R.places ∙ ap is_lit (f.same n l)

  -- ---- the pools
  in_place : (number i : ℕ) (E : Enquiry) → 1 ≤ number → FoundAt number R.places i → lookup number R.places ≡ some E → Burns R number E
  in_place number i E l at e =
      let same : (place_at R i).enquiry ≡ E = some-injective _ _ (sym at.looked_up ∙ e) in
      record { place = i; there = omega (arith, at.there, f.long); least = l; number_there = at.number; enquiry = same }

  lit : (number : ℕ) (E : Enquiry) → lit_with number (history calls) ≡ some E → Burns R number E
  lit zero E e = absurd (true≢false (sym (ap is_lit (sym f.no_zero ∙ e))))
  lit (suc n) E e =
      let l : 1 ≤ suc n = omega arith in
      in_place (suc n) _ E l (found (suc n) R.places (burning (suc n) l ∙ ap is_lit e)) (f.same (suc n) l ∙ e)

  only_lit : (number : ℕ) (E : Enquiry) → Burns R number E → lit_with number (history calls) ≡ some E
  only_lit number E b =
      sym (f.same number b.least) ∙ ap (λ n. lookup n R.places) (sym b.number_there)
      ∙ looked_up_at R.places f.sound b.place (omega (arith, b.there, f.long)) (λ z. omega (arith, b.number_there, z, b.least))
      ∙ ap some b.enquiry

  as_lit : (i : ℕ) → i < 32 → 1 ≤ (place_at R i).number → AsLit (place_at R i)
  as_lit i l k = lit_at R.places f.sound i (omega (arith, l, f.long)) (λ z. omega (arith, k, z))

  once : (i j : ℕ) → i < 32 → j < 32 → 1 ≤ (place_at R i).number → (place_at R i).number ≡ (place_at R j).number → i ≡ j
  once i j l h k e =
      once_at R.places f.sound i j (omega (arith, l, f.long)) (omega (arith, h, f.long)) (λ z. omega (arith, k, z)) e

  -- ---- the sums
  pub sum_afresh :
      (of_pool : BurningPool → ℕ) (figure : Enquiry → ℕ) → ((p : BurningPool) → AsLit p → of_pool p ≡ figure p.enquiry)
      → over_burning of_pool R.places ≡ over_numbers figure (λ n. lit_with n (history calls)) 255
  sum_afresh of_pool figure same =
      sum_by_number figure of_pool same R.places f.sound
      ∙ same_sum figure (λ n. lookup n R.places) (λ n. lit_with n (history calls)) 255 (λ m l h. f.same m l)

  sums : sums_of R ≡ afresh (history calls)
  sums =
      cc (
        sum_afresh (λ p. 1) (λ E. 1) (λ p w. refl),
        sum_afresh (λ p. p.low) (λ E. (flux_of E).low) (λ p w. w.low),
        sum_afresh (λ p. p.high) (λ E. (flux_of E).high) (λ p w. w.high),
      )

  -- ---- the calls from there
  answered : (c : Call) → (called R c).state ≡ due (history calls) c
  answered c = answered_due R (history calls) burning (ap (λ (t : Totals). t.burning) sums) c

  one_fewer : (number : ℕ) → (called R (PutOut number)).state ≡ 0 → suc (sums_of (after (PutOut number ∷ calls))).burning ≡ how_many R
  unfolding after
  one_fewer number =
      by_put_out R (λ s. s.state ≡ 0 → suc (how_many s.register) ≡ how_many R) (λ n p e. absurd (omega (arith, p, e))) number
      (λ o burns e. one_less number (λ z. omega (arith, z, (between 1 255 number o).low)) R.places burns)

-- With 52 due, 32 burn: no flux is refused by 52.
full : (calls : List Call) (number : ℕ) (E : Enquiry) → (called (after calls) (Light number E)).state ≡ 52 → 32 ≤ (sums_of (after calls)).burning
full calls number E e =
    let many = ap (λ (t : Totals). t.burning) (sums calls) in
    let due_52 = sym (answered calls (Light number E)) ∙ e in
    omega (arith, many, only_full (history calls) number E due_52)

space :
    (calls : List Call) (number : ℕ) → (called (after calls) (PutOut number)).state ≡ 0
    → (another : ℕ) (E : Enquiry) → (called (after (PutOut number ∷ calls)) (Light another E)).state ≡ 52 → ⊥
space calls number e another E h =
    omega (arith, one_fewer calls number e, full (PutOut number ∷ calls) another E h, most_burn (after calls).places, (follows calls).long)

-- ---- every register
kept : (R : Register) (c : Call) → 1 ≤ (called R c).state → (called R c).register ≡ R
kept R (Light number E) = by_light R (λ s. 1 ≤ s.state → s.register ≡ R) (λ m p l. refl) number E (λ o h f z l. absurd (omega (arith, l)))
kept R (PutOut number) = by_put_out R (λ s. 1 ≤ s.state → s.register ≡ R) (λ m p l. refl) number (λ o h l. absurd (omega (arith, l)))

pub claims : Claims
claims =
    record {
      lit = lit;
      only_lit = only_lit;
      as_lit = as_lit;
      sums = sums;
      places = λ calls. (follows calls).long;
      at_most = λ calls. omega (arith, most_burn (after calls).places, (follows calls).long);
      once = once;
      answered = answered;
      kept = kept;
      one_fewer = one_fewer;
      space = space;
    }
