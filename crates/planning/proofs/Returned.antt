-- The claims of the code: what `stand_off` and `first_free_place` return, when it is a distance or a place, has the properties of an answer;
-- and what is claimed of 42 and 43 holds where they are returned. From the contracts, which say that what is shown is the definition.
-- Assumes nothing.
use mathlib.Core.Path.{◌≡◌, sym, ap, ◌∙◌}
use Prim.Native.Nat.{ℕ}
use Rattle.std.specs.Prelude.{Result, Ok, Err}
use Rattle.planning.specs.declared.scenario.Scenario.{Scenario}
use Rattle.planning.specs.declared.stand_off.PairAt.{PairAt}
use Rattle.planning.specs.declared.stand_off.NoStandOff.{NoStandOff}
use Rattle.planning.specs.declared.grid.Grid.{Grid}
use Rattle.planning.specs.declared.free_place.Place.{Place}
use Rattle.planning.specs.declared.free_place.NoPlace.{NoPlace}
use Rattle.planning.specs.declared.free_place.NoPlace.TheVariants.{OutsideLimits, Nowhere}
use Rattle.planning.specs.StandOff.{Shown, shown, stand_off_of}
use Rattle.planning.specs.FreePlace as place
use Rattle.planning.specs.FreePlace.{free_place_of}
use Rattle.planning.specs.Claims.{Answered}
use Rattle.planning.specs.PlaceClaims as places
use Rattle.planning.proofs.Claims.{claims}
use Rattle.planning.proofs.PlaceClaims as proved

-- r is what `stand_off` returns: its contract is the premise
pub returned :
    (S : Scenario) (limit : ℕ) (r : Result PairAt NoStandOff) (p : PairAt) → shown r ≡ stand_off_of S limit → r ≡ Ok p
    → Answered S limit (shown (Ok p))
returned S limit r p contract is =
    let same : shown (Ok p) ≡ stand_off_of S limit = sym (ap shown is) ∙ contract in
    rw same (claims.answered S limit (ap (λ (s : Shown). s.state) (sym same)))

-- r is what `first_free_place` returns: its contract is the premise
module _ (S : Scenario) (limit : ℕ) (G : Grid) (r : Result Place NoPlace) (contract : place.shown r ≡ free_place_of S limit G) where
  same_place : {a : Result Place NoPlace} → r ≡ a → place.shown a ≡ free_place_of S limit G
  same_place is = sym (ap place.shown is) ∙ contract

  pub returned_place : (p : Place) → r ≡ Ok p → places.FirstFree S limit G (place.shown (Ok p))
  returned_place p is =
      let same = same_place is in
      rw same ((proved.claims).answered S limit G (ap (λ (s : place.Shown). s.state) (sym same)))

  pub returned_42 : r ≡ Err OutsideLimits → places.InLimits G → ⊥
  returned_42 is = (proved.claims).only_outside S limit G (ap (λ (s : place.Shown). s.state) (sym (same_place is)))

  pub returned_43 : r ≡ Err Nowhere → places.NoneFree S limit G
  returned_43 is = (proved.claims).only_none S limit G (ap (λ (s : place.Shown). s.state) (sym (same_place is)))
