-- Steps 1 to 6: rounded and exact overlap at every depth from 8 on, for an area and a distance within their limits.
-- D lies between 1 and 51, so that every divisor is above 0, by each method, and e is at least 1/256. Assumes nothing.
use mathlib.Core.Path.{refl}
use Prim.Native.Nat.{ℕ, zero, ◌*◌, ◌≤◌, ◌<◌}
use native.Mathlib.Nat.{le_refl}
use native.Mathlib.Omega.{arith}
use lib.Dec.{lit<, lit≤, eqb}
use lib.IntN.{nat_abs}
use Rattle.pairs.specs.Figures.{Figures}
use Rattle.pairs.specs.Answers.{answers}
use Rattle.pairs.specs.Series.{pi}
use Rattle.pairs.proofs.Kept.{choice_kept}
use Rattle.chain.specs.declared.enquiry.Enquiry.{Enquiry}
use Rattle.chain.specs.Chain.{diameter, radius, optical_depth, unabsorbed, burning, flame_height, emissive_power_1, radiant_fraction, flame_surface, emissive_power_2, froude_number, power_61_hundredths, flame_height_3, unobscured, emissive_power_3, in_radii, diameter_of, unabsorbed_of, heat_release_of, burning_rate_of, froude_number_of, flame_1_of, flame_2_of, flame_3_of, flame_of, flame_height_of, emissive_power_of, relative_height_of, relative_elevation_of, relative_distance_of}
use Rattle.chain.proofs.Steps.{equal_factors_kept, Both}
use Rattle.exact.specs.Fraction.{◌⊑◌, whole, ◌⊗◌, ◌⊘◌, power}
use Rattle.exact.specs.Depth as depth
use Rattle.exact.specs.Depth.{Bracket, exact}
use Rattle.exact.proofs.Order.{◌⟫◌, ⊑_refl, ⊕-right, ⊗-mono, ⊘-mono, over_mono, whole_mono, whole_above_0, above_from}
use Rattle.exact.proofs.Root.{one_256th, root_at_least, root_at_most}
use Rattle.exact.proofs.Sound.{Positive}
use Rattle.exact.proofs.Meets.{Meets, constant_meets, sum_meets, difference_meets, product_meets, quotient_meets, times_meets, over_meets, root_meets, fifth_root_meets}
use Rattle.exact.proofs.Arc.{one_meets, pi_meets, pi_low, pi_high, ratio}
use Rattle.exact.proofs.Exp.{exp_neg_meets}
use Rattle.exact.proofs.LnTen.{ln_ten_meets}
use Rattle.exact.proofs.Factor.{pi_positive}

-- ---- the numbers of the bounds
square_of_1 : power (whole 1) 2 ⊑ whole 400 ⊘ whole 100 ⊘ ratio 16 5 (lit< tt)
unfolding power whole ratio ◌⊘◌ ◌⊗◌
square_of_1 = record { cross = lit≤ tt }

square_of_51 : whole 760000 ⊘ whole 100 ⊘ whole 3 ⊑ power (whole 51) 2
unfolding power whole ◌⊘◌ ◌⊗◌
square_of_51 = record { cross = lit≤ tt }

least_distance : one_256th ⊑ whole 1000 ⊘ whole 1000 ⊘ (whole 51 ⊘ whole 2)
unfolding one_256th whole ◌⊘◌
least_distance = record { cross = lit≤ tt }

half_above_0 : zero < (whole 1 ⊘ whole 2).num
unfolding ◌⊘◌ whole
half_above_0 = lit< tt

least_top_above_0 : zero < (whole 3 ⊗ (whole 1 ⊗ whole 1) ⊘ whole 4).num
unfolding whole ◌⊗◌ ◌⊘◌
least_top_above_0 = lit< tt

square_of_1_by_gravity : power (whole 1) 2 ⊑ (whole 981 ⊘ whole 100) ⊗ whole 1
unfolding power whole ◌⊘◌ ◌⊗◌
square_of_1_by_gravity = record { cross = lit≤ tt }

least_speed_above_0 : zero < ((whole 12 ⊘ whole 10) ⊗ whole 1).num
unfolding whole ◌⊗◌ ◌⊘◌
least_speed_above_0 = lit< tt

module _ (n : ℕ) (deep : 8 ≤ n) (E : Enquiry) where
  -- ---- step 1
  abbrev D : Bracket
  D = diameter_of (exact n) E

  diameter_meets : Meets (diameter_of answers E) D
  unfolding diameter_of diameter
  diameter_meets =
      root_meets
      (quotient_meets (constant_meets (4 * E.area) 100 (lit< tt) (omega arith)) (pi_meets n deep) (pi_positive n (omega arith))) n

  radius_meets : Meets (radius answers (diameter_of answers E)) (radius (exact n) D)
  unfolding radius
  radius_meets = over_meets diameter_meets 2 (lit< tt)

  -- ---- steps 2 to 4
  unabsorbed_meets : Meets (unabsorbed_of answers E) (unabsorbed_of (exact n) E)
  unfolding unabsorbed_of unabsorbed optical_depth
  unabsorbed_meets = exp_neg_meets n deep (over_meets (times_meets diameter_meets E.absorption) 100 (lit< tt))

  -- What burns of k thousandths: heat or mass.
  burning_meets : (k : ℕ) → Meets (burning answers (answers.constant k 1000) (unabsorbed_of answers E)) (burning (exact n) ((exact n).constant k 1000) (unabsorbed_of (exact n) E))
  unfolding burning
  burning_meets k = product_meets (constant_meets k 1000 (lit< tt) (omega arith)) (difference_meets (one_meets n) unabsorbed_meets)

  heat_release_meets : Meets (heat_release_of answers E) (heat_release_of (exact n) E)
  unfolding heat_release_of
  heat_release_meets = burning_meets (E.rate * E.heat * E.area)

  flame_height_meets : Meets (flame_height answers (diameter_of answers E) (heat_release_of answers E)) (flame_height (exact n) D (heat_release_of (exact n) E))
  unfolding flame_height
  flame_height_meets =
      let s = fifth_root_meets heat_release_meets n in
      difference_meets (product_meets (constant_meets 235 1000 (lit< tt) refl) (product_meets s s))
      (product_meets (constant_meets 102 100 (lit< tt) refl) diameter_meets)

  -- ---- step 5
  emissive_power_1_meets : Meets (emissive_power_1 answers (diameter_of answers E)) (emissive_power_1 (exact n) D)
  unfolding emissive_power_1
  emissive_power_1_meets =
      times_meets
      (exp_neg_meets n deep
      (product_meets (product_meets (constant_meets 823 100000 (lit< tt) refl) diameter_meets) (ln_ten_meets n deep))) 58

  abbrev L : Bracket
  L = flame_height (exact n) D (heat_release_of (exact n) E)

  flame_surface_meets : Meets (flame_surface answers (diameter_of answers E) (flame_height answers (diameter_of answers E) (heat_release_of answers E))) (flame_surface (exact n) D L)
  unfolding flame_surface
  flame_surface_meets =
      sum_meets (product_meets (product_meets (pi_meets n deep) diameter_meets) flame_height_meets)
      (over_meets (product_meets (pi_meets n deep) (product_meets diameter_meets diameter_meets)) 4 (lit< tt))

  -- ---- request 5: L from w, and E
  flame_height_3_meets : {w : Figures} {W : Bracket} → Meets w W → Meets (flame_height_3 answers (diameter_of answers E) w) (flame_height_3 (exact n) D W)
  unfolding flame_height_3 power_61_hundredths
  flame_height_3_meets w =
      let b = fifth_root_meets (fifth_root_meets (root_meets (root_meets w n) n) n) n in
      product_meets (times_meets diameter_meets 42)
      (equal_factors_kept answers (exact n) Meets (λ p q h. product_meets h b) b 60)

  emissive_power_3_meets : Meets (emissive_power_3 answers (diameter_of answers E)) (emissive_power_3 (exact n) D)
  unfolding emissive_power_3 unobscured
  emissive_power_3_meets =
      let x = exp_neg_meets n deep (product_meets (constant_meets 2 10 (lit< tt) refl) diameter_meets) in
      sum_meets (times_meets x 140) (times_meets (difference_meets (one_meets n) x) 20)

  module _ (least_area : 100 ≤ E.area) (most_area : E.area ≤ 190000) where
    -- ---- the divisors: D between 1 and 51
    diameter_low : whole 1 ⊑ D.low
    unfolding diameter_of diameter depth.root depth.quotient depth.constant
    diameter_low =
        root_at_least 1 n 1 _
        (square_of_1 ⟫ ⊘-mono pi_high_above_0 (over_mono 100 100 (lit< tt) (le_refl 100) (whole_mono (omega arith))) (pi_high n))
      where
        pi_high_above_0 : zero < (pi (exact n)).high.num
        pi_high_above_0 = above_from (pi_positive n (omega arith)) (pi_meets n deep).sound.ordered

    diameter_high : D.high ⊑ whole 51
    unfolding diameter_of diameter depth.root depth.quotient depth.constant
    diameter_high =
        root_at_most 1 n 51 _
        (⊘-mono {c = whole 3} (whole_above_0 (lit< tt)) (over_mono 100 100 (lit< tt) (le_refl 100) (whole_mono (omega arith)))
        (pi_low n (omega arith))
        ⟫ square_of_51)

    radius_positive : Positive (radius (exact n) D)
    unfolding radius depth.over
    radius_positive = above_from half_above_0 (over_mono 2 2 (lit< tt) (le_refl 2) diameter_low)

    radius_high : (radius (exact n) D).high ⊑ whole 51 ⊘ whole 2
    unfolding radius depth.over
    radius_high = over_mono 2 2 (lit< tt) (le_refl 2) diameter_high

    flame_surface_positive : Positive (flame_surface (exact n) D L)
    unfolding flame_surface depth.sum depth.over depth.product
    flame_surface_positive =
        above_from least_top_above_0
        (over_mono 4 4 (lit< tt) (le_refl 4) (⊗-mono (pi_low n (omega arith)) (⊗-mono diameter_low diameter_low)) ⟫ ⊕-right _ _)

    -- 1.2·root(9.81·D) is at least 1.2.
    froude_number_meets : Meets (froude_number_of answers E) (froude_number_of (exact n) E)
    unfolding froude_number_of froude_number burning_rate_of depth.product depth.root depth.constant
    froude_number_meets =
        quotient_meets (burning_meets E.rate)
        (product_meets (constant_meets 12 10 (lit< tt) refl)
        (root_meets (product_meets (constant_meets 981 100 (lit< tt) refl) diameter_meets) n))
        (above_from least_speed_above_0
        (⊗-mono ⊑_refl (root_at_least 1 n 1 _ (square_of_1_by_gravity ⟫ ⊗-mono ⊑_refl diameter_low))))

    -- ---- the flame by each method, and by that of the enquiry
    flame_1_meets : Both Meets (flame_1_of answers E) (flame_1_of (exact n) E)
    unfolding flame_1_of
    flame_1_meets = record { height = flame_height_meets; power = emissive_power_1_meets }

    flame_2_meets : Both Meets (flame_2_of answers E) (flame_2_of (exact n) E)
    unfolding flame_2_of emissive_power_2 radiant_fraction
    flame_2_meets =
        record {
          height = flame_height_meets;
          power =
              quotient_meets
              (product_meets
              (difference_meets (constant_meets 21 100 (lit< tt) refl) (product_meets (constant_meets 34 10000 (lit< tt) refl) diameter_meets))
              heat_release_meets)
              flame_surface_meets flame_surface_positive;
        }

    flame_3_meets : Both Meets (flame_3_of answers E) (flame_3_of (exact n) E)
    unfolding flame_3_of
    flame_3_meets = record { height = flame_height_3_meets froude_number_meets; power = emissive_power_3_meets }

    flame_meets : Both Meets (flame_of answers E) (flame_of (exact n) E)
    unfolding flame_of
    flame_meets =
        choice_kept (Both Meets) (eqb E.method 1) flame_1_meets (choice_kept (Both Meets) (eqb E.method 2) flame_2_meets flame_3_meets)

    pub emissive_power_meets : Meets (emissive_power_of answers E) (emissive_power_of (exact n) E)
    unfolding emissive_power_of
    emissive_power_meets = flame_meets.power

    -- ---- step 6
    pub relative_height_meets : Meets (relative_height_of answers E) (relative_height_of (exact n) E)
    unfolding relative_height_of flame_height_of in_radii
    relative_height_meets = quotient_meets flame_meets.height radius_meets radius_positive

    pub relative_distance_meets : Meets (relative_distance_of answers E) (relative_distance_of (exact n) E)
    unfolding relative_distance_of in_radii
    relative_distance_meets =
        quotient_meets (constant_meets E.distance 1000 (lit< tt) (omega arith)) radius_meets radius_positive

    -- Any magnitude of the height.
    pub relative_elevation_meets : Meets (relative_elevation_of answers E) (relative_elevation_of (exact n) E)
    unfolding relative_elevation_of in_radii
    relative_elevation_meets =
        quotient_meets (constant_meets (nat_abs E.height) 1000 (lit< tt) (omega arith)) radius_meets radius_positive

    pub relative_distance_low : 1000 ≤ E.distance → one_256th ⊑ (relative_distance_of (exact n) E).low
    unfolding relative_distance_of in_radii depth.quotient depth.constant
    relative_distance_low least =
        least_distance ⟫ ⊘-mono radius_high_above_0 (over_mono 1000 1000 (lit< tt) (le_refl 1000) (whole_mono least)) radius_high
      where
        radius_high_above_0 : zero < (radius (exact n) D).high.num
        radius_high_above_0 = above_from radius_positive radius_meets.sound.ordered
