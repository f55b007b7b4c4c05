-- Calls that cross, so that the claims of their order are not of nothing: an accepted enquiry burns under the numbers 1 to 30, and two are lit, one
-- is lit and one put out, two are put out, all accepted. With 31 burning two that are accepted alone are not both accepted in a row. A
-- pool that was burning is not restored. Two orders fill different places. The standard's enquiry is one (ISO 24678-7, A.8). Assumes nothing.
use mathlib.Core.Path.{◌≡◌, refl, sym, ap, ◌∙◌}
use mathlib.Core.Option.{none, some}
use mathlib.Core.List.{List, [], ◌∷◌}
use Prim.Native.Nat.{ℕ, ◌≤◌, ◌<◌}
use native.Mathlib.Omega.{arith}
use lib.Dec.{lit≤, lit<}
use lib.IntN.{pos}
use lib.ListN.{get_or, replicate}
use Rattle.chain.specs.declared.enquiry.Enquiry.{Enquiry}
use Rattle.chain.specs.Flux.{flux_of}
use Rattle.chain.proofs.Examples.{example, level_accepted}
use Rattle.register.specs.declared.places.BurningPool.{BurningPool}
use Rattle.register.specs.Places.{vacant}
use Rattle.register.specs.Calls.{replaced, lit}
use Rattle.register.proofs.ByNumber.{replaced_here, replaced_later}
use Rattle.register.proofs.Outcomes.{by_light}
use Rattle.history.specs.History.{Call, Light, PutOut, called, after, history, about}
use Rattle.history.specs.Claims.{place_at}
use Rattle.history.specs.OrderClaims.{set_after, Crossing}
use Rattle.history.proofs.Due.{due_full}
use Rattle.history.proofs.Claims.{claims}
use Rattle.history.proofs.Sets.{set_other, burning_afresh, out_after_put_out}
use Rattle.history.proofs.OrderClaims.{order_claims}
use Rattle.history.proofs.Examples.{lights_of, one_more_burns, alight, another_lit, one_put_out}

-- Two calls that cross, both accepted in either order.
pub record BothAccepted (before : List Call) (one other : Call) : Type 0 where
  pub crossing : Crossing before one other
  pub one_first : (called (after before) one).state ≡ 0
  pub other_second : (called (after (one ∷ before)) other).state ≡ 0
  pub other_first : (called (after before) other).state ≡ 0
  pub one_second : (called (after (other ∷ before)) one).state ≡ 0

module _ (E : Enquiry) (accepted : (flux_of E).state ≡ 0) where
  both_accepted :
      (k : ℕ) → k ≤ 30 → (one other : Call) → (about one ≡ about other → ⊥) → (called (after (lights_of E k)) one).state ≡ 0
      → (called (after (lights_of E k)) other).state ≡ 0 → BothAccepted (lights_of E k) one other
  both_accepted k few one other different f s =
      let x : Crossing (lights_of E k) one other =
      record { different = different; burning_before = omega (arith, burning_afresh (lights_of E k), (alight E accepted k (omega arith)).burning, few) }
      in
      record {
        crossing = x;
        one_first = f;
        other_second = order_claims.answered_alike (lights_of E k) other one (record { different = λ e. different (sym e); burning_before = x.burning_before }) ∙ s;
        other_first = s;
        one_second = order_claims.answered_alike (lights_of E k) one other x ∙ f;
      }

  two_lights : (k m n : ℕ) → k ≤ 30 → k < m → k < n → (m ≡ n → ⊥) → m ≤ 255 → n ≤ 255 → BothAccepted (lights_of E k) (Light m E) (Light n E)
  two_lights k m n few new new_too different most most_too =
      both_accepted k few (Light m E) (Light n E) different (another_lit E accepted k m (omega arith) new most) (another_lit E accepted k n (omega arith) new_too most_too)

  pub two_lit : BothAccepted (lights_of E 30) (Light 31 E) (Light 32 E)
  two_lit = two_lights 30 31 32 (lit≤ tt) (lit< tt) (lit< tt) (λ e. omega (arith, e)) (lit≤ tt) (lit≤ tt)

  pub one_lit_one_out : BothAccepted (lights_of E 30) (Light 31 E) (PutOut 1)
  one_lit_one_out =
      both_accepted 30 (lit≤ tt) (Light 31 E) (PutOut 1) (λ e. omega (arith, e)) (another_lit E accepted 30 31 (lit< tt) (lit< tt) (lit≤ tt))
      (one_put_out E accepted 30 1 (lit≤ tt) (lit≤ tt) (lit≤ tt))

  pub two_out : BothAccepted (lights_of E 30) (PutOut 1) (PutOut 2)
  two_out =
      both_accepted 30 (lit≤ tt) (PutOut 1) (PutOut 2) (λ e. omega (arith, e)) (one_put_out E accepted 30 1 (lit≤ tt) (lit≤ tt) (lit≤ tt))
      (one_put_out E accepted 30 2 (lit≤ tt) (lit≤ tt) (lit≤ tt))

  -- With 31 burning: each alone, and any two in a row.
  pub each_lit_with_31 : (m : ℕ) → 31 < m → m ≤ 255 → (called (after (lights_of E 31)) (Light m E)).state ≡ 0
  each_lit_with_31 m = another_lit E accepted 31 m (lit< tt)

  pub second_refused_with_31 :
      (m n : ℕ) → 31 < m → m ≤ 255 → 31 < n → n ≤ 255 → (m ≡ n → ⊥) → (called (after (Light m E ∷ lights_of E 31)) (Light n E)).state ≡ 52
  second_refused_with_31 m n new most new_too most_too different =
      let a = alight E accepted 31 (lit≤ tt) in
      let before = Light m E ∷ lights_of E 31 in
      claims.answered before (Light n E)
      ∙ due_full (history before) n E (omega arith) most_too (set_other (lights_of E 31) (Light m E) n different ∙ a.out n new_too)
      (omega (arith, one_more_burns E accepted 31 m (lit< tt) new most a))

  -- Pool 31 is out before, as `restored` asks; pool 1 burns before, and is not restored.
  pub pool_31_out : set_after (lights_of E 30) 31 ≡ none
  pool_31_out = (alight E accepted 30 (lit≤ tt)).out 31 (lit< tt)

  pub pool_1_burning : set_after (lights_of E 30) 1 ≡ some E
  pool_1_burning = (alight E accepted 30 (lit≤ tt)).lit 1 (lit≤ tt) (lit≤ tt)

  pub pool_1_not_restored : set_after (PutOut 1 ∷ Light 1 E ∷ lights_of E 30) 1 ≡ none
  pool_1_not_restored = out_after_put_out (Light 1 E ∷ lights_of E 30) 1

  -- A pool that is lit stands in the first vacant place; so of two the first stands in the first.
  lit_places : (calls : List Call) (n : ℕ) → (called (after calls) (Light n E)).state ≡ 0 → (after (Light n E ∷ calls)).places ≡ replaced 0 (lit n E) (after calls).places
  unfolding after
  lit_places calls n =
      by_light (after calls) (λ s. s.state ≡ 0 → s.register.places ≡ replaced 0 (lit n E) (after calls).places) (λ s p e. absurd (omega (arith, p, e))) n E
      (λ o h f z e. refl)

  first_place : (m n : ℕ) → 1 ≤ m → BothAccepted [] (Light m E) (Light n E) → (place_at (after (Light n E ∷ Light m E ∷ [])) 0).number ≡ m
  unfolding after
  first_place m n least b =
      let first : (after (Light m E ∷ [])).places ≡ lit m E ∷ replicate 31 vacant =
      lit_places [] m b.one_first ∙ replaced_here 0 vacant (replicate 31 vacant) refl (lit m E)
      in
      let second : (after (Light n E ∷ Light m E ∷ [])).places ≡ lit m E ∷ replaced 0 (lit n E) (replicate 31 vacant) =
      lit_places (Light m E ∷ []) n b.other_second ∙ ap (replaced 0 (lit n E)) first
      ∙ replaced_later 0 (lit m E) (replicate 31 vacant) (λ e. omega (arith, e, least)) (lit n E)
      in
      ap (λ (ps : List BurningPool). (get_or ps 0 vacant).number) second

  pub different_places : (after (Light 2 E ∷ Light 1 E ∷ []) ≡ after (Light 1 E ∷ Light 2 E ∷ [])) → ⊥
  different_places e =
      let one = first_place 1 2 (lit≤ tt) (two_lights 0 1 2 (lit≤ tt) (lit< tt) (lit< tt) (λ k. omega (arith, k)) (lit≤ tt) (lit≤ tt)) in
      let two = first_place 2 1 (lit≤ tt) (two_lights 0 2 1 (lit≤ tt) (lit< tt) (lit< tt) (λ k. omega (arith, k)) (lit≤ tt) (lit≤ tt)) in
      omega (arith, one, two, ap (λ R. (place_at R 0).number) e)

-- The standard's enquiry, so there are such calls.
pub standard_two_lit : BothAccepted (lights_of (example 1 1 (pos 0) 1_000) 30) (Light 31 (example 1 1 (pos 0) 1_000)) (Light 32 (example 1 1 (pos 0) 1_000))
standard_two_lit = two_lit (example 1 1 (pos 0) 1_000) (level_accepted 1 1 1_000 refl refl refl)
