-- Request 9: distances from the pool's centre and from its rim, in whole mm, each of a type of its own.
use Rattle.std.specs.Prelude.{ℕ, ◌*◌, ◌-◌}
use Rattle.pairs.specs.declared.answer.Pair.{Pair}
use Rattle.pairs.specs.Rounded.{up, rounded}
use Rattle.chain.specs.Chain.{diameter, radius}
use Rattle.planning.specs.declared.distance.CentreMillimetres.{CentreMillimetres}
use Rattle.planning.specs.declared.distance.RimMillimetres.{RimMillimetres}

-- R of step 1, by the area in dm².
abbrev pub radius_pair : ℕ → Pair
radius_pair area = radius rounded (diameter rounded (rounded.constant (4 * area) 100))

-- "the radius, whose high end is rounded up to a whole mm"; 10^9 trillionths of a metre are a mm.
unfoldable pub radius_of : ℕ → ℕ
radius_of area = up (radius_pair area).high 1_000_000_000

-- "A distance from the centre becomes one from the rim only by taking off the radius": 0 inside the pool.
abbrev pub to_rim : CentreMillimetres → ℕ → RimMillimetres
to_rim centre radius = record { 0 = centre.0 - radius }
