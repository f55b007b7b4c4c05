-- Step 7's two factors over a grid of boxes of y, in l's place, and e: where the grid's tests pass, neither is refused, and both
-- lie inside the grid's bounds. By one sweep over e, and in it one over y. Assumes nothing.
use mathlib.Core.Path.{◌≡◌, refl}
use mathlib.Core.Bool.{Bool, ◌&&◌}
use Prim.Native.Nat.{ℕ, suc, ◌+◌, ◌*◌, ◌≤◌}
use native.Mathlib.Omega.{arith}
use lib.Dec.{T}
use lib.Ieee.Fits.{and_l, and_r}
use Rattle.pairs.specs.Rounded.{U}
use Rattle.pairs.specs.Figures.{Figures}
use Rattle.pairs.specs.Answers.{answers}
use Rattle.chain.specs.Chain.{vertical, horizontal}
use Rattle.chain.proofs.Bounds.{Bound, bounds}
use Rattle.chain.proofs.Within.{Held, Within, within}
use Rattle.chain.proofs.FactorRun.{Row, RowKept, row_run, faces_run, row_run_kept, upright_kept, level_kept}
use Rattle.chain.proofs.Boxes.{box, in_box, passing, passed}
use Rattle.chain.proofs.Sweep.{sweep, swept}

-- The ends of e.
abbrev pub least_distance : ℕ
least_distance = 40_000_000_000

abbrev pub most_distance : ℕ
most_distance = 400 * U

pub record Grid : Type 0 where
  -- the ends of y
  pub lowest : ℕ
  pub highest : ℕ
  -- how wide e may be, and y, by e
  pub distance_width : ℕ → ℕ
  pub height_width : ℕ → ℕ
  -- where the next box starts: of e, and of y in the row of e
  pub next_distance : ℕ → ℕ
  pub next_height : ℕ → ℕ → ℕ
  -- the bounds of the two factors
  pub upright : Bound
  pub level : Bound

abbrev Grows : (ℕ → ℕ) → Type 0
Grows f = (a b : ℕ) → a ≤ b → f a ≤ f b

-- y from a to b, at most w wide, in the row of e.
unfoldable pub box_test : Grid → Row bounds → ℕ → ℕ → ℕ → Bool
box_test G E w a b =
    let F = faces_run bounds E (box a b w) in
    passing G.upright F.upright && passing G.level F.level

-- e from c to d.
abbrev row_of : Grid → ℕ → ℕ → Row bounds
row_of G c d = row_run bounds (box c d (G.distance_width d))

unfoldable pub height_sweep : Grid → ℕ → ℕ → Bool
height_sweep G c d = sweep (box_test G (row_of G c d) (G.height_width d)) (G.next_height c) 60 G.lowest (suc G.highest)

unfoldable pub factor_sweep : Grid → Bool
factor_sweep G = sweep (height_sweep G) G.next_distance 60 least_distance (suc most_distance)

-- y and e lie in the grid, and are no wider than it says.
pub record Placed (G : Grid) (y e : Figures) : Type 0 where
  pub distance_given : e.number ≡ 0
  pub distance_low : least_distance ≤ e.pair.low
  pub distance_ordered : e.pair.low ≤ e.pair.high
  pub distance_high : e.pair.low ≤ most_distance
  pub distance_near : e.pair.high ≤ e.pair.low + G.distance_width e.pair.low
  pub height_given : y.number ≡ 0
  pub height_ordered : y.pair.low ≤ y.pair.high
  pub height_low : G.lowest ≤ y.pair.low
  pub height_high : y.pair.low ≤ G.highest
  pub height_near : y.pair.high ≤ y.pair.low + G.height_width e.pair.low

pub record Factors (G : Grid) (y e : Figures) : Type 0 where
  pub upright : Held (vertical answers y e) G.upright
  pub level : Held (horizontal answers y e) G.level

module _ (G : Grid) (distance_grows : Grows G.distance_width) (height_grows : Grows G.height_width) where
  abbrev Height : Figures → ℕ → Type 0
  Height e i = (y : Figures) → y.pair.low ≡ i → Placed G y e → Factors G y e

  abbrev Distance : ℕ → Type 0
  Distance j = (y e : Figures) → e.pair.low ≡ j → Placed G y e → Factors G y e

  tested : (E : Row bounds) (w : ℕ) (e : Figures) → RowKept answers bounds Within e E → G.height_width e.pair.low ≤ w → (a b : ℕ) → T (box_test G E w a b) → (i : ℕ) → a ≤ i → i ≤ b → Height e i
  unfolding box_test
  tested E w e k wide a b t i p q y eq h =
      let Y = in_box {f = y} a b w h.height_given (rw eq p) (rw eq q) h.height_ordered (omega (arith, h.height_near)) in
      let F = faces_run bounds E (box a b w) in
      let upright : Bool = passing G.upright F.upright in
      let level : Bool = passing G.level F.level in
      record {
        upright = passed G.upright (and_l upright level t) (upright_kept within Y k);
        level = passed G.level (and_r upright level t) (level_kept within Y k);
      }

  row : (c d : ℕ) → T (height_sweep G c d) → (j : ℕ) → c ≤ j → j ≤ d → Distance j
  unfolding height_sweep
  row c d t j p q y e eq h =
      let below : e.pair.low ≤ d = rw eq q in
      let near : e.pair.high ≤ e.pair.low + G.distance_width d = omega (arith, h.distance_near, distance_grows e.pair.low d below) in
      let E = row_run_kept within (in_box {f = e} c d (G.distance_width d) h.distance_given (rw eq p) below h.distance_ordered near) in
      swept (box_test G (row_of G c d) (G.height_width d)) (G.next_height c) (Height e)
      (tested (row_of G c d) (G.height_width d) e E (height_grows e.pair.low d below)) 60 G.lowest (suc G.highest) t y.pair.low
      h.height_low (omega (arith, h.height_high)) y refl h

  pub factors : T (factor_sweep G) → {y e : Figures} → Placed G y e → Factors G y e
  unfolding factor_sweep
  factors t {y} {e} h =
      swept (height_sweep G) G.next_distance Distance row 60 least_distance (suc most_distance) t e.pair.low
      h.distance_low (omega (arith, h.distance_high)) y e refl h
