-- What the sweeps must show of a flame, whatever the method: its height in radii and its emissive power, where they lie and how wide
-- they are. A method has its flame from a rate, of heat or of mass; where the tests of the boxes of that rate pass, it is shown.
-- Assumes nothing.
use mathlib.Core.Path.{◌≡◌, refl}
use mathlib.Core.Bool.{Bool, true, false}
use mathlib.Core.List.{List, [], ◌∷◌}
use Prim.Native.Nat.{ℕ, suc, ◌+◌, ◌*◌, ◌/◌, ◌≤◌, min}
use native.Mathlib.Omega.{arith}
use lib.Dec.{T, leb, eqb, leb→le}
use Rattle.pairs.specs.Rounded.{U}
use Rattle.pairs.specs.Figures.{Figures}
use Rattle.pairs.specs.Answers.{answers}
use Rattle.chain.specs.declared.enquiry.Enquiry.{Enquiry}
use Rattle.chain.specs.Chain.{Flame, in_radii, diameter_of, relative_distance_of}
use Rattle.chain.proofs.Bounds.{Bound, bounds}
use Rattle.chain.proofs.Within.{Held, Within, within}
use Rattle.chain.proofs.Steps.{in_radii_kept}
use Rattle.chain.proofs.Boxes.{box, in_box, known, below_last, passing, tests_passed, passed, every, each}
use Rattle.chain.proofs.Sweep.{sweep, swept}
use Rattle.chain.proofs.Burning.{burning_width}
use Rattle.chain.proofs.Configuration.{relative_height_bound}

-- ---- the spans
abbrev pub emissive_bound_1 : Bound
emissive_bound_1 = record { least = 0; most = 57 * U; width = 500_000; safe = true }

abbrev pub emissive_bound_2 : Bound
emissive_bound_2 = record { least = 0; most = 185 * U; width = 14_500_000; safe = true }

abbrev pub emissive_bound_3 : Bound
emissive_bound_3 = record { least = 0; most = 117 * U; width = 1_200_000; safe = true }

-- By method.
unfoldable pub emissive_bound : ℕ → Bound
emissive_bound method =
    elim (eqb method 1) [
      | true ↦ emissive_bound_1
      | false ↦ elim (eqb method 2) [ true ↦ emissive_bound_2 | false ↦ emissive_bound_3 ]
    ]

-- How wide l is at most, by e: 76,000, from 0.1 on 153,000 and from 0.42 on 440,000 trillionths. Targets are 1 m from the rim at
-- least, so a small e is one of a large pool, whose l is narrower.
abbrev pub flame_width : ℕ → ℕ
flame_width e = 76_000 + 77_000 * min 1 (e / 100_000_000_000) + 287_000 * min 1 (e / 420_000_000_000)

-- ---- what is shown of a flame f whose emissive power has a span: L, l and E, whether or not it is too low
pub record FlameBounded (E : Enquiry) (f : Flame Figures) (span : Bound) : Type 0 where
  pub not_refused : f.height.number ≡ 0
  pub height : Held (in_radii answers f.height (diameter_of answers E)) relative_height_bound
  pub height_near : 1_000 ≤ E.distance → E.distance ≤ 200_000 → (in_radii answers f.height (diameter_of answers E)).pair.high ≤ (in_radii answers f.height (diameter_of answers E)).pair.low + flame_width (relative_distance_of answers E).pair.low
  pub power : Held f.power span

-- The same flame with another emissive power.
pub with_power : {E : Enquiry} {f : Flame Figures} {span : Bound} (P : Figures) (other : Bound) → Held P other → FlameBounded E f span → FlameBounded E (record { height = f.height; power = P }) other
with_power P other p s = record { not_refused = s.not_refused; height = s.height; height_near = s.height_near; power = p }

-- ---- the tests of one box of rates
-- A box of rates, as wide as the largest full rate or the rate itself allows: 1-X is at least the least.
abbrev rate_box : ℕ → ℕ → ℕ → ℕ → Bound
rate_box widest least a b = box a b (min widest (burning_width least b))

-- L is not refused, l and E are in their spans and l is no wider than allowed.
abbrev box_tests : (Bound → Bound → Bound) → Bound → ℕ → Bound → Bound → Bound → List Bool
box_tests power span allowed Q L l = L.safe ∷ passing relative_height_bound l ∷ leb l.width allowed ∷ passing span (power Q L) ∷ []

abbrev height_tests : (Bound → Bound → Bound) → Bound → Bound → ℕ → Bound → Bound → List Bool
height_tests power span D allowed Q L = box_tests power span allowed Q L (in_radii bounds L D)

unfoldable pub rate_test : (Bound → Bound) → (Bound → Bound → Bound) → Bound → Bound → ℕ → ℕ → ℕ → ℕ → ℕ → Bool
rate_test height power span D widest least allowed a b =
    let Q = rate_box widest least a b in
    every (height_tests power span D allowed Q (height Q))

-- How a method has its flame from a rate, in bounds.
pub record From (rate : Figures) (f : Flame Figures) (height : Bound → Bound) (power : Bound → Bound → Bound) : Type 0 where
  pub height_within : {Q : Bound} → Within rate Q → Within f.height (height Q)
  pub power_within : {Q L : Bound} → Within rate Q → Within f.height L → Within f.power (power Q L)

module _ (E : Enquiry) (D : Bound) (d : Held (diameter_of answers E) D) (allowed : ℕ)
    (near_enough : 1_000 ≤ E.distance → E.distance ≤ 200_000 → allowed ≤ flame_width (relative_distance_of answers E).pair.low)
    (rate : Figures) (Q : Bound) (q : Held rate Q) (least : ℕ)
    (narrow : (b : ℕ) → rate.pair.low ≤ b → rate.pair.high ≤ rate.pair.low + burning_width least b)
    (f : Flame Figures) (height : Bound → Bound) (power : Bound → Bound → Bound) (way : From rate f height power) (span : Bound) where
  rate_boxed : (a b : ℕ) → a ≤ rate.pair.low → rate.pair.low ≤ b → Within rate (rate_box Q.width least a b)
  rate_boxed a b l u =
      let i = q.inside in
      in_box a b _ q.given l u i.ordered (omega (arith, i.near, narrow b u))

  rate_tested : (a b : ℕ) → T (rate_test height power span D Q.width least allowed a b) → (i : ℕ) → a ≤ i → i ≤ b → i ≡ rate.pair.low → FlameBounded E f span
  unfolding rate_test
  rate_tested a b t i l u e =
      let heat = rate_boxed a b (rw e at l) (rw e at u) in
      let Q_box = rate_box Q.width least a b in
      let c = each (height_tests power span D allowed Q_box (height Q_box)) t in
      let h = way.height_within heat in
      let r = in_radii bounds (height Q_box) D in
      let w = in_radii_kept within h (known d) in
      let within_box = (w.where_safe (tests_passed relative_height_bound r c.1.0).safe).inside.near in
      record {
        not_refused = (h.where_safe c.0).given;
        height = passed relative_height_bound c.1.0 w;
        height_near = λ lo hi. omega (arith, within_box, leb→le r.width allowed c.1.1.0, near_enough lo hi);
        power = passed span c.1.1.1.0 (way.power_within heat h);
      }

  -- Every rate inside its bound.
  pub flame_swept : (next : ℕ → ℕ) (n : ℕ) → T (sweep (rate_test height power span D Q.width least allowed) next n Q.least (suc Q.most)) → FlameBounded E f span
  flame_swept next n t =
      swept (rate_test height power span D Q.width least allowed) next (λ i. i ≡ rate.pair.low → FlameBounded E f span) rate_tested
      n Q.least (suc Q.most) t rate.pair.low q.inside.low (below_last q) refl
