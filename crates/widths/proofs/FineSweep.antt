-- How wide step 7's two factors are at most, for e and y as wide as an accepted enquiry has them: y from 0 to 54 in l's place, and
-- l itself, which is 0.4 at least. By two sweeps over e and y with small boxes. Assumes nothing.
use mathlib.Core.Bool.{true, false}
use Prim.Native.Nat.{ℕ, ◌+◌, ◌*◌, ◌-◌, ◌/◌, ◌≤◌, zero-le}
use native.Mathlib.Nat.{le_refl}
use native.Mathlib.Omega.{arith}
use lib.Dec.{T, ltb}
use Rattle.pairs.specs.Rounded.{U}
use Rattle.pairs.specs.Figures.{Figures}
use Rattle.chain.proofs.Bounds.{Bound}
use Rattle.chain.proofs.Within.{Held}
use Rattle.chain.proofs.Opened.{opened}
use Rattle.chain.proofs.Radii.{thin}
use Rattle.chain.proofs.Configuration.{elevation_bound, relative_distance_bound}
use Rattle.chain.proofs.Flame.{flame_width}
use Rattle.chain.proofs.FactorSweep.{Grid, box_test, height_sweep, factor_sweep, Placed, Factors, factors}
use Rattle.widths.proofs.HighFlame.{high_flame_bound}

-- Where e lies, and how wide it is.
pub record Distance (e : Figures) : Type 0 where
  pub held : Held e relative_distance_bound
  pub near : e.pair.high ≤ e.pair.low + thin e.pair.low

-- ---- y: h, l-h, h-l or l+h, as wide as l and h together
abbrev pub vertical_bound : Bound
vertical_bound = record { least = 0; most = 11 * U; width = 9_700_000; safe = true }

abbrev pub horizontal_bound : Bound
horizontal_bound = record { least = 0; most = 600_000_000_000; width = 9_800_000; safe = true }

abbrev pub seen_width : ℕ → ℕ
seen_width e = flame_width e + elevation_bound.width

-- Smaller boxes of e under 0.2. Boxes of y by a part of e while y is small, then in proportion to y, longer ones where the
-- target is farther than the radius.
abbrev pub any_height : Grid
any_height =
    record {
      lowest = 0;
      highest = 54 * U;
      distance_width = thin;
      height_width = seen_width;
      next_distance = λ e. elim (ltb e 200_000_000_000) [ true ↦ e + e / 4 | false ↦ e + e / 2 ];
      next_height = λ e y. y + y / 4 + e / 4 + (e - U) * 3 / 4;
      upright = vertical_bound;
      level = horizontal_bound;
    }

any_height_sweep : T (factor_sweep any_height)
unfolding opened factor_sweep height_sweep box_test
any_height_sweep = tt

-- ---- l, for a target level with the base
abbrev pub vertical_bound_at_base : Bound
vertical_bound_at_base = record { least = 0; most = 4 * U; width = 3_300_000; safe = true }

abbrev pub horizontal_bound_at_base : Bound
horizontal_bound_at_base = record { least = 0; most = 600_000_000_000; width = 2_900_000; safe = true }

abbrev pub at_the_base : Grid
at_the_base =
    record {
      lowest = high_flame_bound.least;
      highest = high_flame_bound.most;
      distance_width = thin;
      height_width = flame_width;
      next_distance = λ e. e + e / 2;
      next_height = λ e l. l + l / 4 + (e - U) * 3 / 4;
      upright = vertical_bound_at_base;
      level = horizontal_bound_at_base;
    }

at_the_base_sweep : T (factor_sweep at_the_base)
unfolding opened factor_sweep height_sweep box_test
at_the_base_sweep = tt

-- ---- the factors of one y
placed : (G : Grid) {y e : Figures} (b : Bound) → Held e relative_distance_bound → e.pair.high ≤ e.pair.low + G.distance_width e.pair.low → Held y b → G.lowest ≤ b.least → b.most ≤ G.highest → b.width ≤ G.height_width e.pair.low → Placed G y e
placed G b k near h least most width =
    let i = h.inside in
    let j = k.inside in
    record {
      distance_given = k.given;
      distance_low = j.low;
      distance_ordered = j.ordered;
      distance_high = omega (arith, j.ordered, j.high);
      distance_near = near;
      height_given = h.given;
      height_low = omega (arith, i.low);
      height_ordered = i.ordered;
      height_high = omega (arith, i.ordered, i.high);
      height_near = omega (arith, i.near);
    }

pub factors_at : {y e : Figures} (b : Bound) → Distance e → Held y b → b.most ≤ any_height.highest → b.width ≤ seen_width e.pair.low → Factors any_height y e
factors_at b s h most width =
    factors any_height (λ c d l. omega arith) (λ c d l. omega arith) any_height_sweep
    (placed any_height b s.held s.near h zero-le most width)

-- l, as wide as e allows.
abbrev pub narrow_height : ℕ → Bound
narrow_height e =
    record { least = high_flame_bound.least; most = high_flame_bound.most; width = flame_width e; safe = true }

pub level_factors : {l e : Figures} → Distance e → Held l (narrow_height e.pair.low) → Factors at_the_base l e
level_factors {e = e} s h =
    factors at_the_base (λ c d l. omega arith) (λ c d l. omega arith) at_the_base_sweep
    (placed at_the_base (narrow_height e.pair.low) s.held s.near h (le_refl _) (le_refl _) (le_refl _))
