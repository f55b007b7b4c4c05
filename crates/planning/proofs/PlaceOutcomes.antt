-- The outcomes of the first free place, in the order of its refusals: 42, a refusal of the flux, and what the walk shows. By the outcomes of
-- the tests; the flux is asked at any rim distance in the span, since its state is the same at each. Assumes nothing.
use mathlib.Core.Path.{◌≡◌, refl, sym, ap, subst, ◌∙◌}
use mathlib.Core.Bool.{Bool, true, false}
use Prim.Native.Nat.{ℕ, zero, suc, ◌≤◌, ◌<◌}
use native.Mathlib.Nat.{le_refl}
use native.Mathlib.Omega.{arith}
use lib.Dec.{T, lit≤}
use borrow.Author.Tests.{lt-ltb}
use Rattle.chain.specs.Flux as flux
use Rattle.chain.specs.Flux.{flux_of}
use Rattle.chain.proofs.Limits.{Between, numbers, limited, accepted_tested}
use Rattle.planning.specs.declared.scenario.Scenario.{Scenario}
use Rattle.planning.specs.declared.grid.Grid.{Grid}
use Rattle.planning.specs.declared.distance.RimMillimetres.{RimMillimetres}
use Rattle.planning.specs.Scenario.{at_distance}
use Rattle.planning.specs.Grid.{grid_outside}
use Rattle.planning.specs.FreePlace.{refused, flux_from, own_refusal, walked, free_place_of}
use Rattle.planning.specs.PlaceClaims.{InLimits}
use Rattle.planning.specs.Private.{InSpan}
use Rattle.planning.proofs.SameState.{same_state}
use Rattle.planning.proofs.GridLimits.{in_limits, not_outside, is_outside}

-- The flux's own refusal, from any distance in the span.
pub own_state : (S : Scenario) (d : ℕ) → 1_000 ≤ d → d ≤ 200_000 → own_refusal S ≡ (flux_of (at_distance S d)).state
own_state S d l h = same_state S 200_000 d (lit≤ tt) (le_refl _) l h

-- What the flux shows at such a distance.
module _ (S : Scenario) (rim : RimMillimetres) (i : InSpan rim) (a : flux.Shown) (e : a ≡ flux_from S rim) where
  pub own_is : own_refusal S ≡ a.state
  own_is = own_state S rim.0 i.least i.most ∙ ap (λ (s : flux.Shown). s.state) (sym e)

  -- Where it is accepted the area is in its limits.
  pub area_within : a.state ≡ 0 → Between 100 S.area 190_000
  area_within z =
      let E = at_distance S rim.0 in
      (numbers E (limited E (accepted_tested E (ap (λ (s : flux.Shown). s.state) (sym e) ∙ z)))).area

module _ (S : Scenario) (limit : ℕ) (G : Grid) where
  pub is_42 : (InLimits G → ⊥) → free_place_of S limit G ≡ refused 42
  unfolding free_place_of
  is_42 n = rw (is_outside G n)

  pub own : InLimits G → (n : ℕ) → 0 < n → own_refusal S ≡ n → free_place_of S limit G ≡ refused n
  unfolding free_place_of
  own g n p e = rw (not_outside G g, e, lt-ltb 0 n p)

  pub walks : InLimits G → own_refusal S ≡ 0 → free_place_of S limit G ≡ walked S limit G
  unfolding free_place_of
  walks g e = rw (not_outside G g, e)

  -- There is no other.
  pub by_outcome :
      (P : Type 0) → ((InLimits G → ⊥) → P) → (InLimits G → (n : ℕ) → 0 < n → own_refusal S ≡ n → P) → (InLimits G → own_refusal S ≡ 0 → P)
      → P
  by_outcome P outside refusal walk = by_grid (grid_outside G) refl
    where
      by_state : InLimits G → (n : ℕ) → own_refusal S ≡ n → P
      by_state g zero e = walk g e
      by_state g (suc n) e = refusal g (suc n) (omega arith) e

      by_grid : (b : Bool) → grid_outside G ≡ b → P
      by_grid true e = outside (λ g. subst T (sym e ∙ not_outside G g) tt)
      by_grid false e = by_state (in_limits G e) (own_refusal S) refl
