-- Vocabulary of private functions' contracts. No public contract uses it.
use Rattle.std.specs.Prelude.{◌≡◌, ◌≤◌, Ok}
use Rattle.chain.specs.Flux.{shown}
use Rattle.planning.specs.declared.scenario.Scenario.{Scenario}
use Rattle.planning.specs.declared.distance.RimMillimetres.{RimMillimetres}
use Rattle.planning.specs.declared.free_place.FluxAtRim.{FluxAtRim}
use Rattle.planning.specs.FreePlace.{flux_from}

-- 14 does not apply.
pub record InSpan (rim : RimMillimetres) : Type 0 where
  pub least : 1_000 ≤ rim.0
  pub most : rim.0 ≤ 200_000

-- What was asked is the flux at the rim distance.
abbrev pub Asked : Scenario → FluxAtRim → Type 0
Asked S p = shown (Ok p.flux) ≡ flux_from S p.rim
