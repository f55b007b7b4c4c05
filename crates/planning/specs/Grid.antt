-- Request 9: "a grid of 1 to 64 rows of 1 to 64 points, spacing 100 to 10,000 mm, and the first corner at signed east and north offsets
-- from the pool's centre, each within 1,000,000 mm"; and how far its places are from the pool.
use Rattle.std.specs.Prelude.{ℕ, ◌+◌, ◌*◌, Bool, ◌||◌, ℤ, pos, nat_abs, ◌+ℤ◌}
use Rattle.pairs.specs.Rounded.{root_down}
use Rattle.chain.specs.Flux.{outside}
use Rattle.planning.specs.declared.distance.CentreMillimetres.{CentreMillimetres}
use Rattle.planning.specs.declared.distance.RimMillimetres.{RimMillimetres}
use Rattle.planning.specs.declared.scenario.Scenario.{Scenario}
use Rattle.planning.specs.declared.grid.Grid.{Grid}
use Rattle.planning.specs.Distance.{radius_of, to_rim}

-- "42, a count, spacing or offset of the grid outside its limits"
unfoldable pub grid_outside : Grid → Bool
grid_outside G =
    outside 1 64 G.rows
    || outside 1 64 G.points
    || outside 100 10_000 G.spacing
    || outside 0 1_000_000 (nat_abs G.east)
    || outside 0 1_000_000 (nat_abs G.north)

-- "Places in a row go east by the spacing, rows go north by it, and both are numbered from 0."
abbrev pub east_of : Grid → ℕ → ℤ
east_of G place = G.east +ℤ pos (place * G.spacing)

abbrev pub north_of : Grid → ℕ → ℤ
north_of G row = G.north +ℤ pos (row * G.spacing)

-- The two squared offsets of a place.
abbrev pub squares : Grid → ℕ → ℕ → ℕ
squares G row place =
    nat_abs (east_of G place) * nat_abs (east_of G place) + nat_abs (north_of G row) * nat_abs (north_of G row)

-- "The centre distance is the whole part of the root of the two squared offsets, in mm."
unfoldable pub centre_distance : Grid → ℕ → ℕ → CentreMillimetres
centre_distance G row place = record { 0 = root_down (squares G row place) }

-- The rim distance of a place, with the radius of the scenario's pool.
unfoldable pub rim_distance : Scenario → Grid → ℕ → ℕ → RimMillimetres
rim_distance S G row place = to_rim (centre_distance G row place) (radius_of S.area)
