-- `rim_distance` meets its contract: the radius is that of the scenario's pool.
-- Assumes nothing.
use mathlib.Core.Path.{ap₂, ◌∙◌}
use Prim.Native.Nat.{ℕ, ◌-◌}
use Rattle.planning.specs.Grid.{rim_distance}
use Rattle.planning.proofs.free_place.Walk.rim_distance.Goals as goal

pub returns : goal.returns
unfolding rim_distance
returns c = c.to_rim.ensures ∙ ap₂ (λ (d r : ℕ). d - r) c.centre_distance.ensures c.args.self.radius_of_pool
