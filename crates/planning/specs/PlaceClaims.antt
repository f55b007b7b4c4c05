-- Request 9: what is claimed of the first free place, for every scenario, limit and grid. "The walk goes row by row and breaks off at the
-- first point whose high figure is at most the limit."
use Rattle.std.specs.Prelude.{ℕ, suc, ◌+◌, ◌*◌, ◌≤◌, ◌<◌, ◌≡◌, nat_abs}
use Rattle.pairs.specs.Rounded.{U}
use Rattle.chain.specs.Flux.{flux_of}
use Rattle.exact.specs.Demand.{Holds}
use Rattle.planning.specs.declared.scenario.Scenario.{Scenario}
use Rattle.planning.specs.declared.grid.Grid.{Grid}
use Rattle.planning.specs.Scenario.{at_distance}
use Rattle.planning.specs.Distance.{radius_of}
use Rattle.planning.specs.Grid.{squares, centre_distance, rim_distance}
use Rattle.planning.specs.FreePlace.{Shown, flux_from, free_place_of}

-- "1 to 64 rows of 1 to 64 points, spacing 100 to 10,000 mm, .. offsets .., each within 1,000,000 mm"
pub record InLimits (G : Grid) : Type 0 where
  pub least_rows : 1 ≤ G.rows
  pub most_rows : G.rows ≤ 64
  pub least_points : 1 ≤ G.points
  pub most_points : G.points ≤ 64
  pub least_spacing : 100 ≤ G.spacing
  pub most_spacing : G.spacing ≤ 10_000
  pub east : nat_abs G.east ≤ 1_000_000
  pub north : nat_abs G.north ≤ 1_000_000

pub record InGrid (G : Grid) (row place : ℕ) : Type 0 where
  pub row_there : row < G.rows
  pub place_there : place < G.points

-- A rim distance in the span: its point is not passed over.
pub record Considered (S : Scenario) (G : Grid) (row place : ℕ) : Type 0 where
  pub least : 1_000 ≤ (rim_distance S G row place).0
  pub most : (rim_distance S G row place).0 ≤ 200_000

-- A place that qualifies: it is in the grid and not passed over, its enquiry is accepted, and its "high figure is at most the limit".
pub record Free (S : Scenario) (limit : ℕ) (G : Grid) (row place : ℕ) : Type 0 where
  pub there : InGrid G row place
  pub considered : Considered S G row place
  pub accepted : (flux_from S (rim_distance S G row place)).state ≡ 0
  pub high : (flux_from S (rim_distance S G row place)).high ≤ limit

-- Passed over, or over the limit.
abbrev pub Unfit : Scenario → ℕ → Grid → ℕ → ℕ → Type 0
Unfit S limit G row place = Considered S G row place → limit < (flux_from S (rim_distance S G row place)).high

-- Of an answer, without the walk: it is the first free place.
pub record FirstFree (S : Scenario) (limit : ℕ) (G : Grid) (a : Shown) : Type 0 where
  pub free : Free S limit G a.row a.place
  -- No earlier point would have done: none of the rows before, and none before it in its row.
  pub rows_before : (row place : ℕ) → row < a.row → place < G.points → Unfit S limit G row place
  pub before_in_row : (place : ℕ) → place < a.place → Unfit S limit G a.row place
  -- The pair is that of the flux, so demand 3 holds of it.
  pub low : a.low ≡ (flux_from S (rim_distance S G a.row a.place)).low
  pub high : a.high ≡ (flux_from S (rim_distance S G a.row a.place)).high
  pub exact : (n : ℕ) → 8 ≤ n → Holds n (at_distance S (rim_distance S G a.row a.place).0)

-- Refusal 43: "no point qualifies, last".
pub record NoneFree (S : Scenario) (limit : ℕ) (G : Grid) : Type 0 where
  pub limits : InLimits G
  pub accepted : (d : ℕ) → 1_000 ≤ d → d ≤ 200_000 → (flux_of (at_distance S d)).state ≡ 0
  pub unfit : (row place : ℕ) → InGrid G row place → Unfit S limit G row place

-- "Every refusal returns zeros for row, place and pair."
pub record PlaceZeros (a : Shown) : Type 0 where
  pub row : a.row ≡ 0
  pub place : a.place ≡ 0
  pub low : a.low ≡ 0
  pub high : a.high ≡ 0

-- A rim distance is never taken longer than it is, in mm and mm²: a circle of the radius that is taken off covers the pool's area, with
-- 3.141592653444 for pi, which is more; and that radius and the rim distance together reach no further than the place.
pub record NeverLonger (S : Scenario) (G : Grid) (row place : ℕ) : Type 0 where
  pub radius : S.area * 10_000 * U ≤ radius_of S.area * radius_of S.area * 3_141_592_653_444
  pub reach :
      Considered S G row place
      → ((rim_distance S G row place).0 + radius_of S.area) * ((rim_distance S G row place).0 + radius_of S.area) ≤ squares G row place

-- All that is claimed.
pub record PlaceClaims : Type 0 where
  -- 42 exactly where a count, spacing or offset is outside its limits.
  pub outside : (S : Scenario) (limit : ℕ) (G : Grid) → (InLimits G → ⊥) → (free_place_of S limit G).state ≡ 42
  pub only_outside : (S : Scenario) (limit : ℕ) (G : Grid) → (free_place_of S limit G).state ≡ 42 → InLimits G → ⊥
  -- "A flux refusal other than 14 is returned before the walk.": that of any rim distance in the span.
  pub flux_next :
      (S : Scenario) (limit : ℕ) (G : Grid) → InLimits G → (d n : ℕ) → 1_000 ≤ d → d ≤ 200_000
      → (flux_of (at_distance S d)).state ≡ suc n → (free_place_of S limit G).state ≡ suc n
  pub never_14 : (S : Scenario) (limit : ℕ) (G : Grid) → (free_place_of S limit G).state ≡ 14 → ⊥
  -- 43 exactly where neither applies and each place is passed over or over the limit.
  pub none : (S : Scenario) (limit : ℕ) (G : Grid) → NoneFree S limit G → (free_place_of S limit G).state ≡ 43
  pub only_none : (S : Scenario) (limit : ℕ) (G : Grid) → (free_place_of S limit G).state ≡ 43 → NoneFree S limit G
  -- Where a place qualifies there is an answer, and an answer is the first of them.
  pub free : (S : Scenario) (limit : ℕ) (G : Grid) (row place : ℕ) → InLimits G → Free S limit G row place → (free_place_of S limit G).state ≡ 0
  pub answered : (S : Scenario) (limit : ℕ) (G : Grid) → (free_place_of S limit G).state ≡ 0 → FirstFree S limit G (free_place_of S limit G)
  pub zeros : (S : Scenario) (limit : ℕ) (G : Grid) (n : ℕ) → (free_place_of S limit G).state ≡ suc n → PlaceZeros (free_place_of S limit G)
  -- "The centre distance is the whole part of the root of the two squared offsets."
  pub whole_part :
      (G : Grid) (row place : ℕ)
      → ((centre_distance G row place).0 * (centre_distance G row place).0 ≤ squares G row place)
      × (squares G row place < suc (centre_distance G row place).0 * suc (centre_distance G row place).0)
  pub never_longer : (S : Scenario) (G : Grid) (row place : ℕ) → NeverLonger S G row place
