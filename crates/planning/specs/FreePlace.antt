-- Request 9: the first free place of a grid, from a scenario and a limit in W/m², on all numbers.
use Rattle.std.specs.Prelude.{ℕ, Bool, ◌&&◌, not, leb, ltb, Result, Ok, Err}
use Rattle.pairs.specs.Figures.{refuse}
use Rattle.pairs.specs.Search.{least}
use Rattle.chain.specs.Flux as flux
use Rattle.chain.specs.Flux.{outside, flux_of}
use Rattle.planning.specs.declared.scenario.Scenario.{Scenario}
use Rattle.planning.specs.declared.distance.RimMillimetres.{RimMillimetres}
use Rattle.planning.specs.declared.grid.Grid.{Grid}
use Rattle.planning.specs.declared.free_place.Place.{Place}
use Rattle.planning.specs.declared.free_place.NoPlace.{NoPlace}
use Rattle.planning.specs.declared.free_place.NoPlace.TheVariants.{Flux, OutsideLimits, Nowhere}
use Rattle.planning.specs.Scenario.{at_distance}
use Rattle.planning.specs.Grid.{grid_outside, rim_distance}

-- State, row, place, low and high as this paper shows them.
pub record Shown : Type 0 where
  pub state : ℕ
  pub row : ℕ
  pub place : ℕ
  pub low : ℕ
  pub high : ℕ

-- "Every refusal returns zeros for row, place and pair."
abbrev pub refused : ℕ → Shown
refused n = record { state = n; row = 0; place = 0; low = 0; high = 0 }

-- The number of a refusal: the flux's own, 42 or 43.
abbrev pub number_of : NoPlace → ℕ
number_of (Flux why) = flux.number_of why
number_of OutsideLimits = 42
number_of Nowhere = 43

-- This paper's number, row, place and pair for each answer and refusal.
abbrev pub shown : Result Place NoPlace → Shown
shown (Ok p) = record { state = 0; row = p.row; place = p.place; low = p.low; high = p.high }
shown (Err why) = refused (number_of why)

-- What the flux shows at a rim distance.
abbrev pub flux_from : Scenario → RimMillimetres → flux.Shown
flux_from S rim = flux_of (at_distance S rim.0)

-- "A flux refusal other than 14": that of a rim distance inside the span, where 14 is not met. It is the same at every such distance
-- (PlaceClaims); here it is taken at 200,000 mm.
abbrev pub own_refusal : Scenario → ℕ
own_refusal S = (flux_of (at_distance S 200_000)).state

-- "Points with a rim distance outside 1,000 to 200,000 mm are passed over."; "the first point whose high figure is at most the limit"
unfoldable pub is_free : Scenario → ℕ → Grid → ℕ → ℕ → Bool
is_free S limit G row place =
    let rim = rim_distance S G row place in
    not (outside 1_000 200_000 rim.0) && leb (flux_from S rim).high limit

-- "The walk goes row by row and breaks off at the first point": in a row the first place that is free, or the count of points where none
-- is; then the first row that has one, or the count of rows.
unfoldable pub first_in_row : Scenario → ℕ → Grid → ℕ → ℕ
first_in_row S limit G row = least (is_free S limit G row) G.points

unfoldable pub first_row : Scenario → ℕ → Grid → ℕ
first_row S limit G = least (λ row. ltb (first_in_row S limit G row) G.points) G.rows

-- "row, place and pair are returned"
abbrev pub shown_at : Scenario → Grid → ℕ → ℕ → Shown
shown_at S G row place =
    let f = flux_from S (rim_distance S G row place) in
    record { state = 0; row = row; place = place; low = f.low; high = f.high }

-- "43, no point qualifies, last"
unfoldable pub walked : Scenario → ℕ → Grid → Shown
walked S limit G =
    let row = first_row S limit G in
    refuse (leb G.rows row) (refused 43) (shown_at S G row (first_in_row S limit G row))

-- "42, a count, spacing or offset of the grid outside its limits, first"; "A flux refusal other than 14 is returned before the walk."
unfoldable pub free_place_of : Scenario → ℕ → Grid → Shown
free_place_of S limit G =
    refuse (grid_outside G) (refused 42)
    (refuse (ltb 0 (own_refusal S)) (refused (own_refusal S))
    (walked S limit G))
