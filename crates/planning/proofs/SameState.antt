-- Request 7: "Flux refusals do not depend on the distance inside the span."; and 14 is none of them there. 14 is the only test that
-- reads the distance, and 16 reads the pool alone, by a law of `chain`: so the tests are the same. Assumes nothing.
use mathlib.Core.Path.{◌≡◌, refl, ap, ◌∙◌}
use mathlib.Core.List.{List}
use Prim.Native.Nat.{ℕ, ◌*◌, ◌≤◌}
use native.Mathlib.Nat.{le_refl}
use native.Mathlib.Omega.{arith}
use lib.Dec.{T, lit≤}
use Rattle.chain.specs.Tests.{Test, first_that_applies}
use Rattle.chain.specs.Flux.{Shown, refused, fuel_within, accepted, limits, tests, flux_of}
use Rattle.chain.proofs.FirstThatApplies.{every_test, by_every_test, past_tests, same_after_tests}
use Rattle.chain.proofs.Limits.{inside, untold, not_told}
use Rattle.chain.proofs.PoolAlone.{same_flame_test}
use Rattle.planning.specs.declared.scenario.Scenario.{Scenario}
use Rattle.planning.specs.Scenario.{at_distance}
use Rattle.planning.specs.StandOff.{flux_at}

-- The tests at two distances inside the span.
same : (S : Scenario) (a b : ℕ) → 1_000 ≤ a → a ≤ 200_000 → 1_000 ≤ b → b ≤ 200_000 → tests (at_distance S a) ≡ tests (at_distance S b)
unfolding limits fuel_within
same S a b la ha lb hb =
    rw (inside 1_000 200_000 a la ha, inside 1_000 200_000 b lb hb, same_flame_test (at_distance S a) b S.face S.height S.transmissivity) refl

pub same_state :
    (S : Scenario) (a b : ℕ) → 1_000 ≤ a → a ≤ 200_000 → 1_000 ≤ b → b ≤ 200_000
    → (flux_of (at_distance S a)).state ≡ (flux_of (at_distance S b)).state
unfolding flux_of
same_state S a b la ha lb hb =
    let B = at_distance S b in
    same_after_tests refused (λ s t. s.state ≡ t.state) (λ _. refl) (tests (at_distance S a)) _ (accepted B) (λ _. refl)
    ∙ ap (λ (ts : List Test). (first_that_applies refused ts (accepted B)).state) (same S a b la ha lb hb)

-- Where the flux is accepted at 2,000 decimetres, it is from 10 on.
pub accepted_at : (S : Scenario) (d : ℕ) → (flux_at S 2_000).state ≡ 0 → 10 ≤ d → d ≤ 2_000 → (flux_at S d).state ≡ 0
accepted_at S d z l h = same_state S (100 * d) 200_000 (omega arith) (omega arith) (lit≤ tt) (le_refl _) ∙ z

-- 14 is not given inside the span: its test does not apply.
pub never_14 : (S : Scenario) (d : ℕ) → 1_000 ≤ d → d ≤ 200_000 → (flux_of (at_distance S d)).state ≡ 14 → ⊥
unfolding flux_of limits
never_14 S d l h e =
    let E = at_distance S d in
    let u : T (every_test (untold 14) (tests E)) = rw (inside 1_000 200_000 d l h) tt in
    let past = past_tests refused (λ (s : Shown). s.state ≡ 14) (tests E) _ (by_every_test _ (untold 14) (not_told 14) (tests E) u) e in
    omega (arith, past.1)
