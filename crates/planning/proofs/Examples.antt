-- A scenario of each method, face, height and transmissivity that has a stand-off: the pool of ISO 24678-7, A.8, so that nothing is said
-- of no answer at all. From its enquiry at 15,000 mm, since the state does not depend on the distance. Assumes nothing.
use mathlib.Core.Path.{◌≡◌, ◌∙◌}
use mathlib.Core.Bool.{false}
use Prim.Native.Nat.{ℕ, ◌≤◌}
use native.Mathlib.Nat.{le_refl}
use lib.Dec.{lit≤}
use lib.IntN.{ℤ}
use Rattle.chain.specs.Flux.{outside, height_outside}
use Rattle.chain.proofs.Examples.{each_accepted}
use Rattle.planning.specs.declared.scenario.Scenario.{Scenario}
use Rattle.planning.specs.StandOff.{flux_at, stand_off_of}
use Rattle.planning.proofs.SameState.{same_state}
use Rattle.planning.proofs.Claims.{claims}

abbrev pub example : ℕ → ℕ → ℤ → ℕ → Scenario
example method face height transmissivity =
    record { rate = 39; absorption = 350; heat = 432; area = 7_854; method = method; face = face; height = height; transmissivity = transmissivity }

module _ (method face : ℕ) (height : ℤ) (transmissivity : ℕ) where
  abbrev S : Scenario
  S = example method face height transmissivity

  -- From each limit that the high figure at 2,000 decimetres keeps.
  pub each_answered :
      outside 1 3 method ≡ false → outside 1 3 face ≡ false → height_outside height ≡ false → outside 1 1_000 transmissivity ≡ false
      → (limit : ℕ) → (flux_at S 2_000).high ≤ limit → (stand_off_of S limit).state ≡ 0
  each_answered m f h t limit k =
      claims.kept S limit
      (record {
        accepted = same_state S 200_000 15_000 (lit≤ tt) (le_refl _) (lit≤ tt) (lit≤ tt) ∙ each_accepted method face height transmissivity m f h t;
        high = k;
      })
