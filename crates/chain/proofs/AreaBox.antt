-- D, e, a height in radii and the flame of each method at one box of areas: inside the limits nothing refuses, and the flame is shown
-- as every flame must be. What the box's tests say. Assumes nothing.
use mathlib.Core.Path.{◌≡◌}
use mathlib.Core.Bool.{Bool, true}
use mathlib.Core.List.{List, [], ◌∷◌}
use Prim.Native.Nat.{ℕ, zero, suc, ◌+◌, ◌*◌, ◌-◌, ◌/◌, ◌≤◌, ◌<◌, zero-le}
use native.Mathlib.Nat.{le_trans, le_refl, lt_of_le_of_lt, mul-le-mul, mul-le-mul_left, mul-le-mul_right}
use native.Mathlib.Omega.{arith}
use lib.Dec.{T, leb, ltb, eqb, leb→le, ltb→lt, lit<, lit≤}
use Rattle.pairs.specs.Rounded as R
use Rattle.pairs.specs.Rounded.{U, up, down}
use Rattle.pairs.specs.Answers.{answers}
use Rattle.pairs.proofs.Rounding.{up_grows, down_grows}
use Rattle.pairs.proofs.Kept.{choice_kept}
use Rattle.chain.specs.declared.enquiry.Enquiry.{Enquiry}
use Rattle.chain.specs.Chain as chain
use Rattle.chain.specs.Chain.{diameter, optical_depth, burning, flame_height, emissive_power_1, emissive_power_2, froude_number, flame_height_3, emissive_power_3, in_radii, diameter_of, unabsorbed_of, heat_release_of, burning_rate_of, froude_number_of, flame_1_of, flame_2_of, flame_3_of, flame_of, relative_distance_of}
use Rattle.chain.proofs.Bounds as B
use Rattle.chain.proofs.Bounds.{Bound, bound, bounds}
use Rattle.chain.proofs.Within.{Held, Within, within}
use Rattle.chain.proofs.Steps.{diameter_kept, burning_kept, flame_height_kept, emissive_power_1_kept, emissive_power_2_kept, froude_number_kept, flame_height_3_kept, emissive_power_3_kept, in_radii_kept}
use Rattle.chain.proofs.Boxes.{known, passing, tests_passed, passed, constant_held, times_over_held, every, each}
use Rattle.chain.proofs.Sweep.{sweep}
use Rattle.chain.proofs.Limits.{Fuel}
use Rattle.chain.proofs.Exponential.{spread, exp_bound, shallowest, deepest, burnt, Depth, unabsorbed}
use Rattle.chain.proofs.Burning.{burning_near}
use Rattle.chain.proofs.Radii.{thin, radii_near}
use Rattle.chain.proofs.Configuration.{elevation_bound, relative_distance_bound}
use Rattle.chain.proofs.Flame.{emissive_bound_1, emissive_bound_2, emissive_bound_3, emissive_bound, flame_width, FlameBounded, with_power, rate_test, From, flame_swept}

abbrev pub diameter_bound : Bound
diameter_bound = record { least = U; most = 50 * U; width = 6_000; safe = true }

-- ---- the tests of one box of areas
abbrev area_box : ℕ → ℕ → Bound
area_box a b = record { least = 4 * a * U / 100; most = 4 * b * U / 100; width = 0; safe = true }

-- Exact pairs of a number of thousandths, from a to b.
abbrev thousandths_box : ℕ → ℕ → Bound
thousandths_box a b = record { least = a * U / 1000; most = b * U / 1000; width = 0; safe = true }

-- X, where 1-X is at least the least.
abbrev unabsorbed_box : ℕ → Bound
unabsorbed_box least = record { least = exp_bound.least; most = U - least; width = exp_bound.width; safe = true }

-- Q and M: the heat and the mass that burn.
unfoldable pub heat_box : ℕ → ℕ → ℕ → Bound
heat_box a b least = burning bounds (thousandths_box (1_000 * a) (75_000 * b)) (unabsorbed_box least)

unfoldable pub mass_box : ℕ → Bound
mass_box least = burning bounds (thousandths_box 10 150) (unabsorbed_box least)

-- Heat release rates by a third, burning rates by a half.
abbrev next_heat : ℕ → ℕ
next_heat q = q + q / 3

abbrev next_mass : ℕ → ℕ
next_mass m = m + m / 2

-- L of method 3 from M.
abbrev smoky_height : Bound → Bound → Bound
smoky_height D M = flame_height_3 bounds D (froude_number bounds D M)

-- The least optical depth of the box, what 1-X is at least, and the bound of e.
abbrev depth_from : Bound → ℕ
depth_from D = down (D.least * 10) 100

abbrev burnt_from : Bound → ℕ
burnt_from D = burnt (depth_from D)

abbrev distances : Bound → Bound
distances D = in_radii bounds (thousandths_box 1_000 200_000) D

abbrev allowed : Bound → ℕ
allowed D = flame_width (distances D).least

abbrev area_tests : ℕ → Bound → Bound → Bound → Bound → List Bool
area_tests b D Q M P =
    leb b 190_001
    ∷ passing diameter_bound D
    ∷ leb shallowest (depth_from D)
    ∷ ltb (up (D.most * 500) 100) deepest
    ∷ leb (D.width * 6_000_000_000) D.least
    ∷ passing relative_distance_bound (distances D)
    ∷ passing elevation_bound (in_radii bounds (thousandths_box 0 20_000) D)
    ∷ passing emissive_bound_1 (emissive_power_1 bounds D)
    ∷ Q.safe
    ∷ sweep (rate_test (flame_height bounds D) (emissive_power_2 bounds D) emissive_bound_2 D Q.width (burnt_from D) (allowed D)) next_heat 100 Q.least (suc Q.most)
    ∷ M.safe
    ∷ sweep (rate_test (smoky_height D) (λ _ _. P) emissive_bound_3 D M.width (burnt_from D) (allowed D)) next_mass 40 M.least (suc M.most)
    ∷ []

abbrev pool_tests : ℕ → ℕ → Bound → List Bool
pool_tests a b D = area_tests b D (heat_box a b (burnt_from D)) (mass_box (burnt_from D)) (emissive_power_3 bounds D)

unfoldable pub area_test : ℕ → ℕ → Bool
area_test a b = every (pool_tests a b (diameter bounds (area_box a b)))

-- ---- the numbers of the enquiry, as exact pairs
area_held : (n a b : ℕ) → a ≤ n → n ≤ b → b ≤ 190_001 → Held (answers.constant (4 * n) 100) (area_box a b)
unfolding R.constant
area_held n a b l u w =
    constant_held (4 * n) 100 (area_box a b) (omega arith) (record { low = omega arith; ordered = le_refl _; high = omega arith; near = omega arith })

thousandths_held : (n a b : ℕ) → a ≤ n → n ≤ b → b ≤ 75_000 * 190_001 → Held (answers.constant n 1000) (thousandths_box a b)
unfolding R.constant
thousandths_held n a b l u w =
    constant_held n 1000 (thousandths_box a b) (omega arith) (record { low = omega arith; ordered = le_refl _; high = omega arith; near = omega arith })

-- ---- the optical depth, for any absorption inside the limits
spread_covers : (w t y : ℕ) → w * 2_000_000_000 ≤ t → down t 100 ≤ y → up w 100 + 1 ≤ spread y
unfolding up down
spread_covers w t y h k = omega arith

hundred : zero < 100
hundred = lit< tt

module _ (E : Enquiry) (F : Fuel E) (D : Bound) (hD : Held (diameter_of answers E) D) (safe : T D.safe) (below_50 : D.most ≤ 50 * U) where
  depth_held : Held (optical_depth answers E.absorption (diameter_of answers E)) (B.over (B.times D E.absorption) 100)
  unfolding optical_depth
  depth_held = times_over_held E.absorption 100 safe hundred (omega (arith, mul-le-mul below_50 F.absorption.high)) hD

  -- X, and that 1-X is at least what the least optical depth burns.
  unabsorbed_held : shallowest ≤ depth_from D → up (D.most * 500) 100 < deepest → D.width * 2_000_000_000 ≤ D.least → Held (unabsorbed_of answers E) exp_bound × ((unabsorbed_of answers E).pair.high + burnt_from D ≤ U)
  unfolding unabsorbed_of chain.unabsorbed B.over B.times bound
  unabsorbed_held above below narrow =
      let k = E.absorption in
      let y = depth_held.inside in
      let Y = optical_depth answers E.absorption (diameter_of answers E) in
      let p = Y.pair in
      let high : p.high < deepest = lt_of_le_of_lt (le_trans y.high (up_grows hundred (le_refl 100) (mul-le-mul_left D.most F.absorption.high))) below in
      let wide : D.width * k * 2_000_000_000 ≤ D.least * k = omega (arith, mul-le-mul_right k narrow) in
      let near : p.high ≤ p.low + spread p.low = omega (arith, y.near, spread_covers (D.width * k) (D.least * k) p.low wide y.low) in
      let deep : depth_from D ≤ p.low = le_trans (down_grows hundred (le_refl 100) (mul-le-mul_left D.least F.absorption.low)) y.low in
      let depth : Depth Y = record { given = depth_held.given; ordered = y.ordered; near = near } in
      let X = unabsorbed Y depth (le_trans above deep) (lt_of_le_of_lt y.ordered high) in
      (X.held, omega (arith, X.below_one, deep))

-- X in its box.
unabsorbed_boxed : (E : Enquiry) (least : ℕ) → Held (unabsorbed_of answers E) exp_bound → (unabsorbed_of answers E).pair.high + least ≤ U → Held (unabsorbed_of answers E) (unabsorbed_box least)
unabsorbed_boxed E least h below =
    let i = h.inside in
    record { given = h.given; inside = record { low = i.low; ordered = i.ordered; high = omega (arith, below); near = i.near } }

-- ---- one box of areas
pub record Area (E : Enquiry) : Type 0 where
  pub diameter : Held (diameter_of answers E) diameter_bound
  pub distance : 1_000 ≤ E.distance → E.distance ≤ 200_000 → Held (relative_distance_of answers E) relative_distance_bound
  pub distance_near : 1_000 ≤ E.distance → E.distance ≤ 200_000 → (relative_distance_of answers E).pair.high ≤ (relative_distance_of answers E).pair.low + thin (relative_distance_of answers E).pair.low
  pub elevation : (n : ℕ) → n ≤ 20_000 → Held (in_radii answers (answers.constant n 1000) (diameter_of answers E)) elevation_bound
  pub flame : FlameBounded E (flame_of answers E) (emissive_bound E.method)

least_supply : (E : Enquiry) → Fuel E → 1_000 * E.area ≤ E.rate * E.heat * E.area
least_supply E F = mul-le-mul_right E.area (mul-le-mul F.rate.low F.heat.low)

most_supply : (E : Enquiry) → Fuel E → E.rate * E.heat * E.area ≤ 75_000 * E.area
most_supply E F = mul-le-mul_right E.area (mul-le-mul F.rate.high F.heat.high)

distance_within : (E : Enquiry) (D : Bound) → Within (diameter_of answers E) D → 1_000 ≤ E.distance → E.distance ≤ 200_000 → Within (relative_distance_of answers E) (distances D)
unfolding relative_distance_of
distance_within E D d lo hi = in_radii_kept within (known (thousandths_held E.distance 1_000 200_000 lo hi (lit≤ tt))) d

-- Each method's flame from its rate.
module _ (E : Enquiry) (D : Bound) (d : Within (diameter_of answers E) D) where
  from_heat : From (heat_release_of answers E) (flame_2_of answers E) (flame_height bounds D) (emissive_power_2 bounds D)
  unfolding flame_2_of
  from_heat = record { height_within = flame_height_kept within d; power_within = emissive_power_2_kept within d }

  from_mass : From (burning_rate_of answers E) (flame_3_of answers E) (smoky_height D) (λ _ _. emissive_power_3 bounds D)
  unfolding flame_3_of froude_number_of
  from_mass =
      record {
        height_within = λ m. flame_height_3_kept within d (froude_number_kept within d m);
        power_within = λ _ _. emissive_power_3_kept within d;
      }

-- The method of the enquiry is one of the three.
by_method : (E : Enquiry) → Held (emissive_power_1 answers (diameter_of answers E)) emissive_bound_1 → FlameBounded E (flame_2_of answers E) emissive_bound_2 → FlameBounded E (flame_3_of answers E) emissive_bound_3 → FlameBounded E (flame_of answers E) (emissive_bound E.method)
unfolding flame_of flame_1_of flame_2_of emissive_bound
by_method E p s t =
    choice_kept (FlameBounded E) (eqb E.method 1) (with_power (emissive_power_1 answers (diameter_of answers E)) emissive_bound_1 p s)
    (choice_kept (FlameBounded E) (eqb E.method 2) s t)

pub area_tested : (a b : ℕ) → T (area_test a b) → (n : ℕ) → a ≤ n → n ≤ b → (E : Enquiry) → n ≡ E.area → Fuel E → Area E
unfolding area_test diameter_of heat_release_of burning_rate_of relative_distance_of heat_box mass_box
area_tested a b t n l u E e F =
    let D = diameter bounds (area_box a b) in
    let least = burnt_from D in
    let Q = heat_box a b least in
    let M = mass_box least in
    let c = each (pool_tests a b D) t in
    let small : b ≤ 190_001 = leb→le b 190_001 c.0 in
    let dw = diameter_kept within (known (area_held E.area a b (rw e at l) (rw e at u) small)) in
    let p = tests_passed diameter_bound D c.1.0 in
    let d = dw.where_safe p.safe in
    let c₂ = c.1.1 in
    let narrow : D.width * 6_000_000_000 ≤ D.least = leb→le _ D.least c₂.1.1.0 in
    let deep : shallowest ≤ depth_from D = leb→le shallowest _ c₂.0 in
    let X = unabsorbed_held E F D d p.safe p.most deep (ltb→lt _ deepest c₂.1.0) (omega arith) in
    let x = known (unabsorbed_boxed E least X.0 X.1) in
    let c₅ = c₂.1.1.1 in
    let distance = distance_within E D dw in
    let s = tests_passed relative_distance_bound (distances D) c₅.0 in
    let near_enough : 1_000 ≤ E.distance → E.distance ≤ 200_000 → allowed D ≤ flame_width (relative_distance_of answers E).pair.low = λ lo hi. let near = ((distance lo hi).where_safe s.safe).inside.low in omega (arith, near) in
    let c₈ = c₅.1.1.1 in
    let supply = thousandths_held (E.rate * E.heat * E.area) (1_000 * a) (75_000 * b) (omega (arith, least_supply E F, rw e at l)) (omega (arith, most_supply E F, rw e at u)) (omega arith) in
    let q = (burning_kept within (known supply) x).where_safe c₈.0 in
    let rate = thousandths_held E.rate 10 150 F.rate.low F.rate.high (lit≤ tt) in
    let m = (burning_kept within (known rate) x).where_safe c₈.1.1.0 in
    record {
      diameter = passed diameter_bound c.1.0 dw;
      distance = λ lo hi. passed relative_distance_bound c₅.0 (distance lo hi);
      distance_near = λ lo hi. radii_near E.distance E D d p.least narrow ((distance lo hi).where_safe s.safe).given;
      elevation = λ n small. passed elevation_bound c₅.1.0 (in_radii_kept within (known (thousandths_held n 0 20_000 zero-le small (lit≤ tt))) dw);
      flame =
          by_method E (passed emissive_bound_1 c₅.1.1.0 (emissive_power_1_kept within dw))
          (flame_swept E D d (allowed D) near_enough _ Q q least (burning_near _ E least (omega arith) X.0 X.1 q.given) _ _ _ (from_heat E D dw)
          emissive_bound_2 next_heat 100 c₈.1.0)
          (flame_swept E D d (allowed D) near_enough _ M m least (burning_near _ E least (omega arith) X.0 X.1 m.given) _ _ _ (from_mass E D dw)
          emissive_bound_3 next_mass 40 c₈.1.1.1.0);
    }
