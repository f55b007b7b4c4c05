-- Request 6: "A planner comparing faces should find the tilted high end never below either wall's high end." So for the factor, and
-- for what is printed; a low end can be below a wall's by less than a millionth, and by 1 W/m² at most as printed.
-- From the laws of the hypotenuse, by roundings that grow. Assumes nothing.
use mathlib.Core.Path.{◌≡◌, refl, ap}
use mathlib.Core.Bool.{Bool, true, false}
use Prim.Native.Nat.{ℕ, ◌+◌, ◌*◌, ◌≤◌}
use native.Mathlib.Nat.{le_refl, le_trans, le_of_lt, mul-add, add-mul, mul-le-mul_left, mul-le-mul_right}
use native.Mathlib.Omega.{arith}
use lib.Dec.{eqb, lit<}
use Rattle.pairs.specs.declared.answer.Pair.{Pair}
use Rattle.pairs.specs.Rounded as R
use Rattle.pairs.specs.Rounded.{U, up, down, rounded}
use Rattle.pairs.proofs.Rounding.{up_grows}
use Rattle.chain.specs.declared.enquiry.Enquiry.{Enquiry}
use Rattle.chain.specs.Chain.{diameter_of, unabsorbed_of, heat_release_of, burning_rate_of, froude_number_of, flame_1_of, flame_2_of, flame_3_of, flame_of, flame_height_of, emissive_power_of, relative_height_of, relative_elevation_of, relative_distance_of, most_exposed, by_face, factor, factor_at, configuration_factor_of, transmitted, clear_flux, radiant_flux}
use Rattle.chain.specs.Flux.{outside, fuel_within, flame_too_low, low_of, high_of, limits, flux_of, Shown}
use Rattle.chain.proofs.Hypotenuse.{Covered, upright_covered, level_covered}
use Rattle.chain.proofs.Boxes.{either}
use Rattle.chain.proofs.Limits.{Tested, numbers, limited, shown, accepted_tested}
use Rattle.chain.proofs.Unrefused.{power_inside}

-- ---- the factor of a face
by_face_covered : (face : ℕ) (upright level : Pair) → Covered (by_face rounded face upright level) (by_face rounded 3 upright level)
unfolding by_face
by_face_covered face upright level =
    let P : Pair → Type 0 = λ p. Covered p (most_exposed rounded upright level) in
    either P (eqb face 1) (upright_covered upright level)
    (either P (eqb face 2) (level_covered upright level) (record { high = le_refl _; low = omega arith }))

-- The factor alone, and at a height.
pub factor_alone_covered : (face : ℕ) (l e : Pair) → Covered (factor rounded face l e) (factor rounded 3 l e)
unfolding factor
factor_alone_covered face l e = by_face_covered face _ _

factor_covered : (up : Bool) (face : ℕ) (l h e : Pair) → Covered (factor_at rounded up face l h e) (factor_at rounded up 3 l h e)
unfolding factor_at
factor_covered true face l h e = by_face_covered face _ _
factor_covered false face l h e = by_face_covered face _ _

-- ---- q of E and two factors, as printed
module _ (power : Pair) (bright : power.low ≤ 185 * U) {t : ℕ} (most : t ≤ 1000) {f g : Pair} (c : Covered f g) where
  flux_high :
      up (1000 * (transmitted rounded t (R.product power f)).high) U ≤ up (1000 * (transmitted rounded t (R.product power g)).high) U
  unfolding transmitted R.over R.times R.product
  flux_high =
      up_grows (lit< {n = U} tt) (le_refl U)
      (mul-le-mul_left 1000
      (up_grows (lit< {n = 1000} tt) (le_refl 1000)
      (mul-le-mul_right t (up_grows (lit< {n = U} tt) (le_refl U) (mul-le-mul_left power.high c.high)))))

  -- E is at most 185, so a millionth of the factor is less than a W/m².
  product_low : (R.product power f).low ≤ (R.product power g).low + 185_000_000
  unfolding R.product down
  product_low = omega (arith, mul-le-mul_left power.low (le_of_lt c.low), mul-add power.low g.low 1_000_000, bright)

  transmitted_low : (transmitted rounded t (R.product power f)).low ≤ (transmitted rounded t (R.product power g)).low + 185_000_000
  unfolding transmitted R.over R.times down
  transmitted_low = omega (arith, mul-le-mul_right t product_low, add-mul (R.product power g).low 185_000_000 t, most)

  flux_low :
      down (1000 * (transmitted rounded t (R.product power f)).low) U
      ≤ down (1000 * (transmitted rounded t (R.product power g)).low) U + 1
  unfolding down
  flux_low = omega (arith, transmitted_low)

-- ---- one enquiry
-- The same enquiry with another face.
abbrev pub facing : ℕ → Enquiry → Enquiry
facing face E =
    record {
      rate = E.rate;
      absorption = E.absorption;
      heat = E.heat;
      area = E.area;
      method = E.method;
      distance = E.distance;
      face = face;
      height = E.height;
      transmissivity = E.transmissivity;
    }

facing_tested : (E : Enquiry) (face : ℕ) → outside 1 3 face ≡ false → Tested E → Tested (facing face E)
unfolding limits fuel_within flame_too_low flame_height_of flame_of flame_1_of flame_2_of flame_3_of diameter_of unabsorbed_of heat_release_of burning_rate_of froude_number_of
facing_tested E face f (t11, (t12, (t13, (t14, (_, (t18, (t19, (t16, _)))))))) = (t11, (t12, (t13, (t14, (f, (t18, (t19, (t16, tt))))))))

-- A face of an enquiry beside its tilted one.
pub record Exposed (E : Enquiry) (face : ℕ) : Type 0 where
  pub accepted : (flux_of (facing face E)).state ≡ 0
  pub factor : Covered (configuration_factor_of rounded (facing face E)) (configuration_factor_of rounded (facing 3 E))
  pub high : (flux_of (facing face E)).high ≤ (flux_of (facing 3 E)).high
  pub low : (flux_of (facing face E)).low ≤ (flux_of (facing 3 E)).low + 1

-- An accepted enquiry is accepted with each face.
pub worst_face : (E : Enquiry) → (flux_of E).state ≡ 0 → (face : ℕ) → outside 1 3 face ≡ false → Exposed E face
unfolding low_of high_of radiant_flux clear_flux configuration_factor_of emissive_power_of relative_height_of relative_elevation_of relative_distance_of flame_height_of flame_of flame_1_of flame_2_of flame_3_of diameter_of unabsorbed_of heat_release_of burning_rate_of froude_number_of
worst_face E e face f =
    let t = accepted_tested E e in
    let asked = shown (facing face E) (facing_tested E face f t) in
    let tilted = shown (facing 3 E) (facing_tested E 3 refl t) in
    let power = power_inside E (limited E t) in
    let bright = le_trans power.ordered power.high in
    let most = (numbers E (limited E t)).transmissivity.high in
    let c = factor_covered _ face _ _ _ in
    record {
      accepted = ap (λ (s : Shown). s.state) asked;
      factor = c;
      high = rw (asked, tilted) (flux_high (emissive_power_of rounded E) bright most c);
      low = rw (asked, tilted) (flux_low (emissive_power_of rounded E) bright most c);
    }
