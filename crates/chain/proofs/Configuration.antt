-- Step 7 for a target at any height: nothing refuses where l, h and e lie in the spans that follow, and how large the factor is.
-- By one sweep over y and e with large boxes, which show ranges and no widths. Assumes nothing.
use mathlib.Core.Bool.{Bool, true, false}
use Prim.Native.Nat.{ℕ, ◌+◌, ◌*◌, ◌-◌, ◌/◌, zero-le}
use native.Mathlib.Nat.{le_refl}
use native.Mathlib.Omega.{arith}
use lib.Dec.{T, eqb}
use Rattle.pairs.specs.Rounded.{U}
use Rattle.pairs.specs.Figures.{Figures}
use Rattle.pairs.specs.Answers.{answers}
use Rattle.chain.specs.Chain.{by_face, vertical_above, horizontal_above, vertical_below, horizontal_below, factor_at}
use Rattle.chain.specs.Private.{Spaced}
use Rattle.chain.proofs.Bounds as B
use Rattle.chain.proofs.Bounds.{Bound, bound}
use Rattle.chain.proofs.Within.{Held, within}
use Rattle.chain.proofs.Boxes.{known, passing, passed, either}
use Rattle.chain.proofs.Opened.{opened}
use Rattle.chain.proofs.FaceBounds.{face_bound, by_face_within}
use Rattle.chain.proofs.FactorSweep.{Grid, box_test, height_sweep, factor_sweep, Factors, factors}

-- ---- where l, h and e lie, and how wide they may be
abbrev pub relative_height_bound : Bound
relative_height_bound = record { least = 0; most = 17_499_999_999_999; width = 1_300_000; safe = true }

abbrev pub elevation_bound : Bound
elevation_bound = record { least = 0; most = 36 * U; width = 6_000; safe = true }

abbrev pub relative_distance_bound : Bound
relative_distance_bound = record { least = 40_000_000_000; most = 400_000_000_000_000; width = 60_000; safe = true }

-- y is h, l-h, h-l or l+h.
abbrev pub seen_bound : Bound
seen_bound = record { least = 0; most = 54 * U; width = 1_306_000; safe = true }

-- ---- the factors of one y
abbrev pub vertical_bound : Bound
vertical_bound = record { least = 0; most = 17 * U; width = 2 * U; safe = true }

abbrev pub horizontal_bound : Bound
horizontal_bound = record { least = 0; most = U; width = 2 * U; safe = true }

-- Longer boxes where the target is farther than the radius.
abbrev coarse : Grid
coarse =
    record {
      lowest = 0;
      highest = 54 * U;
      distance_width = λ e. 60_000;
      height_width = λ e. 1_306_000;
      next_distance = λ e. e + e * 3 / 4;
      next_height = λ e y. y + y / 3 + e * 3 / 4 + (e - U) * 3 / 4;
      upright = vertical_bound;
      level = horizontal_bound;
    }

coarse_sweep : T (factor_sweep coarse)
unfolding opened factor_sweep height_sweep box_test
coarse_sweep = tt

pub one_factor : {y e : Figures} → Held y seen_bound → Spaced e → Factors coarse y e
one_factor {y} {e} h k =
    let i = h.inside in
    factors coarse (λ a b h. le_refl _) (λ a b h. le_refl _) coarse_sweep
    (record {
      distance_given = k.given;
      distance_low = k.least;
      distance_ordered = k.ordered;
      distance_high = omega (arith, k.ordered, k.most);
      distance_near = k.near;
      height_given = h.given;
      height_ordered = i.ordered;
      height_low = zero-le;
      height_high = omega (arith, i.ordered, i.high);
      height_near = i.near;
    })

pub spaced : {e : Figures} → Held e relative_distance_bound → Spaced e
spaced h =
    let i = h.inside in
    record { given = h.given; least = i.low; ordered = i.ordered; most = i.high; near = i.near }

-- ---- the factor of a face at a height
-- From the base up the vertical factor is at most the sum of two.
abbrev upright_bound : Bound
upright_bound = record { least = 0; most = 34 * U; width = 6 * U; safe = true }

abbrev level_bound : Bound
level_bound = record { least = 0; most = U; width = 4 * U; safe = true }

-- The tilted face is little above the larger of these two.
abbrev pub factor_bound : Bound
factor_bound = record { least = 0; most = 34_020_000_000_000; width = 11 * U; safe = true }

any_face : (face : ℕ) → T (passing factor_bound (face_bound face upright_bound level_bound))
unfolding opened face_bound
any_face face =
    let P : Bound → Type 0 = λ b. T (passing factor_bound b) in
    either P (eqb face 1) {x = upright_bound} tt
    (either P (eqb face 2) {x = level_bound} {y = B.exposed upright_bound level_bound} tt tt)

by_face_held : (face : ℕ) {f g : Figures} → Held f upright_bound → Held g level_bound → Held (by_face answers face f g) factor_bound
by_face_held face p q = passed factor_bound (any_face face) (by_face_within face (known p) (known q))

module _ (l : Figures) {h e : Figures} (E : Spaced e) (H : Held h seen_bound) where
  pub above_held :
      Held (answers.difference l h) seen_bound → Held (answers.difference h l) seen_bound → (face : ℕ)
      → Held (factor_at answers true face l h e) factor_bound
  unfolding factor_at vertical_above horizontal_above passing B.sum B.difference bound
  above_held between beyond face =
      let f = one_factor between E in
      by_face_held face
      (passed upright_bound tt
      (within.difference (within.sum (known (one_factor H E).upright) (known f.upright)) (known (one_factor beyond E).upright)))
      (passed level_bound tt (known f.level))

  below_held : Held (answers.sum l h) seen_bound → (face : ℕ) → Held (factor_at answers false face l h e) factor_bound
  unfolding factor_at vertical_below horizontal_below passing B.difference bound
  below_held together face =
      let f = one_factor together E in
      let g = one_factor H E in
      by_face_held face (passed upright_bound tt (within.difference (known f.upright) (known g.upright)))
      (passed level_bound tt (within.difference (known f.level) (known g.level)))

pub factor_at_held :
    {l h e : Figures} → Held l relative_height_bound → Held h elevation_bound → Spaced e → (up : Bool) (face : ℕ)
    → Held (factor_at answers up face l h e) factor_bound
unfolding passing B.sum B.difference bound
factor_at_held {l} L H E true face =
    above_held l E (passed seen_bound tt (known H)) (passed seen_bound tt (within.difference (known L) (known H)))
    (passed seen_bound tt (within.difference (known H) (known L))) face
factor_at_held {l} L H E false face =
    below_held l E (passed seen_bound tt (known H)) (passed seen_bound tt (within.sum (known L) (known H))) face
