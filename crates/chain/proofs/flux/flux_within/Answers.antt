-- `flux_within` meets its contract: inside the limits no operation refuses, and only the flame test is left.
-- Assumes nothing.
use mathlib.Core.Path.{◌≡◌, refl, sym, ap, ap₂, ◌∙◌}
use Prim.Native.Nat.{ℕ, ◌*◌, ◌≤◌}
use mathlib.Core.Bool.{true, false, ◌&&◌}
use lib.Dec.{eqb, leb, ltb}
use Rattle.pairs.specs.declared.answer.Pair.{Pair}
use Rattle.pairs.specs.Rounded.{U, down, up, rounded}
use Rattle.pairs.specs.Figures.{Figures}
use Rattle.pairs.specs.Answers.{answers}
use Rattle.chain.specs.declared.enquiry.Enquiry.{Enquiry}
use Rattle.chain.specs.declared.enquiry.Printed.{Printed}
use Rattle.chain.specs.Chain as chain
use Rattle.chain.specs.Tests.{first_that_applies}
use Rattle.chain.specs.Flux.{Shown, refused, flame_too_low, low_of, high_of, note_of, accepted, limits, flame_test, flux_of}
use Rattle.chain.specs.Private.{Limited, Prints}
use Rattle.chain.proofs.FirstThatApplies.{told, in_two, none_told}
use Rattle.chain.proofs.Limits.{tested, shown}
use Rattle.chain.proofs.InLimits.{limited_of}
use Rattle.chain.proofs.Unrefused.{unrefused}
use Rattle.chain.proofs.flux.flux_within.Goals as goal

module _ (E : Enquiry) (w : Limited E) where
  -- the tests of the numbers do not apply, so the flame test is left
  flame_test_left : flux_of E ≡ first_that_applies refused (flame_test E) (accepted E)
  unfolding flux_of
  flame_test_left = in_two refused (limits E) (flame_test E) _ ∙ none_told refused (limits E) _ w

  low_flame : flame_too_low E ≡ true → refused 16 ≡ flux_of E
  low_flame e = sym (flame_test_left ∙ told refused 0 (flame_test E) 16 _ (e, refl))

  -- what is printed of the chain's pair
  as_shown :
      (q : Pair) (p : Printed) → flame_too_low E ≡ false → q ≡ chain.radiant_flux rounded E → Prints q E.method p
      → ◌≡◌ {A = Shown} (record { state = 0; low = p.low; high = p.high; note = p.note }) (flux_of E)
  unfolding low_of high_of note_of
  as_shown q p f e h =
      (λ i. record { state = 0; low = h.low i; high = h.high i; note = h.note i })
      ∙ ap (λ (p : Pair). record { state = 0; low = down (1000 * p.low) U; high = up (1000 * p.high) U; note = elim (eqb E.method 1 && leb (down (1000 * p.low) U) 5000) as (λ _. ℕ) [ true ↦ 1 | false ↦ 0 ] }) e
      ∙ sym (shown E (tested E w f))

  -- the chain's pair: nothing refuses
  worked : (a : Figures) (q : Pair) → a ≡ chain.radiant_flux answers E → q ≡ a.pair → q ≡ chain.radiant_flux rounded E
  worked a q e f = f ∙ ap (λ (x : Figures). x.pair) (e ∙ (unrefused E w).flux_given)

  small : (q : Pair) → q ≡ chain.radiant_flux rounded E → (q.low ≤ q.high) × (q.high ≤ 6_300 * U)
  small q e = let u = unrefused E w in rw e (u.ordered, u.high)

-- D and L are those of the enquiry
diameter_is : (E : Enquiry) (D : Figures) → D ≡ chain.diameter answers (answers.constant (4 * E.area) 100) → D ≡ chain.diameter_of answers E
unfolding chain.diameter_of
diameter_is E D d = d

too_low_is : (E : Enquiry) → Limited E → (D L : Figures) → D ≡ chain.diameter_of answers E → L ≡ chain.flame_height_of answers E → flame_too_low E ≡ ltb (4 * L.pair.low) D.pair.high
unfolding flame_too_low
too_low_is E w D L d l =
    let u = unrefused E w in
    ap₂ (λ (x y : Figures). ltb (4 * x.pair.low) y.pair.high) (sym (l ∙ u.flame_height_given)) (sym (d ∙ u.diameter_given))

pub flame-burning-requires : goal.flame-burning-requires
flame-burning-requires c = diameter_is _ _ c.diameter-across.ensures

pub returns-then-too_low : goal.returns-then-too_low
returns-then-too_low c =
    let w = limited_of c.args.a in
    let test = too_low_is _ w _ _ (diameter_is _ _ c.diameter-across.ensures) c.flame-burning.ensures.height in
    low_flame _ w (test ∙ sym c.if-too_low.ensures)

pub radiant_flux-requires-clause-diameter_value : goal.radiant_flux-requires-clause-diameter_value
radiant_flux-requires-clause-diameter_value c = diameter_is _ _ c.diameter-across.ensures

pub printed-requires : goal.printed-requires
printed-requires c =
    let w = limited_of c.args.a in
    small _ w _ (worked _ w _ _ c.radiant_flux.ensures c.pair-q.ensures)

pub returns : goal.returns
returns c =
    let w = limited_of c.args.a in
    let test = too_low_is _ w _ _ (diameter_is _ _ c.diameter-across.ensures) c.flame-burning.ensures.height in
    as_shown _ w _ _ (test ∙ sym c.if-too_low.ensures) (worked _ w _ _ c.radiant_flux.ensures c.pair-q.ensures) (rw c.args.a.method_is at c.printed.ensures)
