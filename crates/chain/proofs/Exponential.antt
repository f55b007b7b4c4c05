-- exp(-y) of every optical depth y that the limits allow is not refused, at most 8,000 trillionths wide, and below 1 by half of
-- y or by a half. By one sweep over y from 0.1 to 250. Assumes nothing.
use mathlib.Core.Path.{◌≡◌, refl}
use mathlib.Core.Bool.{Bool, true, ◌&&◌}
use Prim.Native.Nat.{ℕ, ◌+◌, ◌/◌, ◌≤◌, ◌<◌, min}
use native.Mathlib.Omega.{arith}
use lib.Dec.{T, leb, leb→le}
use lib.Ieee.Fits.{and_l, and_r}
use Rattle.pairs.specs.Rounded.{U}
use Rattle.pairs.specs.Figures.{Figures}
use Rattle.pairs.specs.Answers.{answers}
use Rattle.pairs.specs.Series.{exp_neg}
use Rattle.pairs.proofs.Kept.{exp_neg_kept}
use Rattle.chain.proofs.Bounds.{Bound, bounds}
use Rattle.chain.proofs.Within.{Held, within}
use Rattle.chain.proofs.Boxes.{box, in_box, passing, tests_passed, passed}
use Rattle.chain.proofs.Opened.{opened}
use Rattle.chain.proofs.Sweep.{sweep, swept}

-- The optical depth is as wide as the diameter in proportion: a 2,000,000,000th part, and the roundings.
abbrev pub spread : ℕ → ℕ
spread y = y / 2_000_000_000 + 4

abbrev pub exp_bound : Bound
exp_bound = record { least = 0; most = U; width = 8_000; safe = true }

abbrev pub shallowest : ℕ
shallowest = 100_000_000_000

abbrev pub deepest : ℕ
deepest = 250_000_000_000_000

-- What 1 - exp(-y) is at least.
abbrev pub burnt : ℕ → ℕ
burnt y = min y U / 2

unfoldable pub exp_test : ℕ → ℕ → Bool
exp_test a b = let X = exp_neg bounds (box a b (spread b)) in passing exp_bound X && leb (X.most + burnt b) U

abbrev pub next_depth : ℕ → ℕ
next_depth y = min (y + y / 2) deepest

exp_sweep : T (sweep exp_test next_depth 40 shallowest deepest)
unfolding opened exp_test
exp_sweep = tt

-- A depth that is given, ordered and not too wide.
pub record Depth (y : Figures) : Type 0 where
  pub given : y.number ≡ 0
  pub ordered : y.pair.low ≤ y.pair.high
  pub near : y.pair.high ≤ y.pair.low + spread y.pair.low

pub record Unabsorbed (y : Figures) : Type 0 where
  pub held : Held (exp_neg answers y) exp_bound
  pub below_one : (exp_neg answers y).pair.high + burnt y.pair.low ≤ U

abbrev Exponential : ℕ → Type 0
Exponential i = (y : Figures) → Depth y → y.pair.low ≡ i → Unabsorbed y

tested : (a b : ℕ) → T (exp_test a b) → (i : ℕ) → a ≤ i → i ≤ b → Exponential i
unfolding exp_test
tested a b t i l u y d e =
    let X = exp_neg bounds (box a b (spread b)) in
    let near : y.pair.high ≤ y.pair.low + spread b = omega (arith, d.near, e) in
    let x = exp_neg_kept within (in_box a b (spread b) d.given (rw e l) (rw e u) d.ordered near) in
    let t₁ = and_l (passing exp_bound X) (leb (X.most + burnt b) U) t in
    let h = x.where_safe (tests_passed exp_bound X t₁).safe in
    let most : X.most + burnt b ≤ U = leb→le (X.most + burnt b) U (and_r (passing exp_bound X) (leb (X.most + burnt b) U) t) in
    record { held = passed exp_bound t₁ x; below_one = omega (arith, h.inside.high, most, e) }

pub unabsorbed : (y : Figures) → Depth y → shallowest ≤ y.pair.low → y.pair.low < deepest → Unabsorbed y
unabsorbed y d l u = swept exp_test next_depth Exponential tested 40 shallowest deepest exp_sweep y.pair.low l u y d refl
