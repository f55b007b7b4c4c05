-- How wide the factor of a face is at most, at any height and level with the base: three vertical factors from the base up, two
-- below it, one level with it. By the widths of sums and differences. Assumes nothing.
use mathlib.Core.Bool.{true, false}
use Prim.Native.Nat.{ℕ, ◌+◌, ◌≤◌}
use native.Mathlib.Nat.{le_refl}
use native.Mathlib.Omega.{arith}
use lib.Dec.{lit≤}
use Rattle.pairs.specs.Figures.{Figures}
use Rattle.pairs.specs.Answers.{answers}
use Rattle.chain.specs.Chain.{factor, vertical_above, horizontal_above, vertical_below, horizontal_below, factor_at}
use Rattle.chain.proofs.Bounds as B
use Rattle.chain.proofs.Bounds.{Bound, bound}
use Rattle.chain.proofs.Within.{Held, Within, within}
use Rattle.chain.proofs.FaceBounds.{face_bound, by_face_within}
use Rattle.chain.proofs.Boxes.{known}
use Rattle.chain.proofs.Configuration.{elevation_bound}
use Rattle.chain.proofs.Flame.{flame_width}
use Rattle.chain.proofs.FactorSweep.{Factors}
use Rattle.widths.proofs.HighFlame.{high_flame_bound}
use Rattle.widths.proofs.FineSweep.{vertical_bound, horizontal_bound, vertical_bound_at_base, horizontal_bound_at_base, any_height, at_the_base, Distance, narrow_height, factors_at, level_factors}

-- l, h and e of one enquiry: where they lie, and how wide they are.
pub record Placement (l h e : Figures) : Type 0 where
  pub height : Held l high_flame_bound
  pub height_near : l.pair.high ≤ l.pair.low + flame_width e.pair.low
  pub elevation : Held h elevation_bound
  pub distance : Distance e

-- ---- bounds of the factor of a face
unfoldable pub level_bound : ℕ → Bound
level_bound face = face_bound face vertical_bound_at_base horizontal_bound_at_base

unfoldable pub above_bound : ℕ → Bound
above_bound face = face_bound face (B.difference (B.sum vertical_bound vertical_bound) vertical_bound) horizontal_bound

unfoldable pub below_bound : ℕ → Bound
below_bound face =
    face_bound face (B.difference vertical_bound vertical_bound) (B.difference horizontal_bound horizontal_bound)

module _ {l h e : Figures} (s : Placement l h e) where
  narrow : Held l (narrow_height e.pair.low)
  narrow =
      let i = s.height.inside in
      record { given = s.height.given; inside = record { low = i.low; ordered = i.ordered; high = i.high; near = s.height_near } }

  at_l : Factors at_the_base l e
  at_l = level_factors s.distance narrow

  at_h : Factors any_height h e
  at_h = factors_at elevation_bound s.distance s.elevation (lit≤ tt) (omega arith)

  at_l_less_h : Factors any_height (answers.difference l h) e
  unfolding B.difference bound
  at_l_less_h =
      factors_at (B.difference (narrow_height e.pair.low) elevation_bound) s.distance
      ((within.difference (known narrow) (known s.elevation)).where_safe tt) (lit≤ tt) (le_refl _)

  at_h_less_l : Factors any_height (answers.difference h l) e
  unfolding B.difference bound
  at_h_less_l =
      factors_at (B.difference elevation_bound (narrow_height e.pair.low)) s.distance
      ((within.difference (known s.elevation) (known narrow)).where_safe tt) (lit≤ tt) (omega arith)

  at_l_and_h : Factors any_height (answers.sum l h) e
  unfolding B.sum bound
  at_l_and_h =
      factors_at (B.sum (narrow_height e.pair.low) elevation_bound) s.distance
      ((within.sum (known narrow) (known s.elevation)).where_safe tt) (lit≤ tt) (le_refl _)

  -- ---- the factor of a face
  pub level_within : (face : ℕ) → Within (factor answers face l e) (level_bound face)
  unfolding factor level_bound
  level_within face = by_face_within face (known at_l.upright) (known at_l.level)

  pub above_within : (face : ℕ) → Within (factor_at answers true face l h e) (above_bound face)
  unfolding factor_at vertical_above horizontal_above above_bound
  above_within face =
      by_face_within face
      (within.difference (within.sum (known at_h.upright) (known at_l_less_h.upright)) (known at_h_less_l.upright))
      (known at_l_less_h.level)

  pub below_within : (face : ℕ) → Within (factor_at answers false face l h e) (below_bound face)
  unfolding factor_at vertical_below horizontal_below below_bound
  below_within face =
      by_face_within face (within.difference (known at_l_and_h.upright) (known at_h.upright))
      (within.difference (known at_l_and_h.level) (known at_h.level))
