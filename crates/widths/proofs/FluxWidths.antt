-- How far apart the ends of q are at most, by method and face, at any height and level with the base.
-- From the widths of E and of the factor, by one product; haze adds a trillionth at most. Assumes nothing.
use mathlib.Core.Path.{◌≡◌, refl}
use mathlib.Core.Bool.{Bool, true, false}
use mathlib.Core.List.{List, [], ◌∷◌}
use Prim.Native.Nat.{ℕ, ◌+◌, ◌≤◌, max}
use native.Mathlib.Nat.{le-max_left, le-max_right}
use native.Mathlib.Omega.{arith}
use lib.Dec.{T, eqb}
use lib.IntN.{pos}
use lib.Signed.{non_neg}
use Rattle.pairs.specs.Rounded.{rounded}
use Rattle.pairs.specs.Answers.{answers}
use Rattle.pairs.proofs.Agreement.{agreement}
use Rattle.chain.specs.declared.enquiry.Enquiry.{Enquiry}
use Rattle.chain.specs.Chain.{factor, factor_at, emissive_power_of, relative_height_of, relative_elevation_of, relative_distance_of, configuration_factor_of, clear_flux, radiant_flux}
use Rattle.chain.proofs.Bounds as B
use Rattle.chain.proofs.Bounds.{Bound}
use Rattle.chain.proofs.Within.{Held, within}
use Rattle.chain.proofs.Steps.{factor_kept, emissive_power_of_kept, relative_height_of_kept, relative_distance_of_kept, clear_flux_kept}
use Rattle.chain.proofs.Boxes.{known, every, each, either}
use Rattle.chain.proofs.Opened.{opened}
use Rattle.chain.proofs.FaceBounds.{face_bound}
use Rattle.chain.proofs.Flame.{emissive_bound_1, emissive_bound_2, emissive_bound_3, emissive_bound}
use Rattle.chain.proofs.Limits.{Tested, numbers, limited}
use Rattle.chain.proofs.Unrefused as chain
use Rattle.chain.proofs.Haze.{hazy_near}
use Rattle.chain.proofs.Level.{clear_level}
use Rattle.widths.proofs.HighFlame.{high_flame}
use Rattle.widths.proofs.FactorWidths.{Placement, level_bound, above_bound, below_bound, level_within, above_within, below_within}

-- ---- bounds of E·F
-- From a bound of the factor, in trillionths of a kW/m².
unfoldable pub clear_bound : ℕ → Bound → Bound
clear_bound method F = B.product (emissive_bound method) F

-- How wide E·F is at most, in trillionths of a kW/m², by method and face: at any height, and level with the base.
unfoldable pub width_of : ℕ → ℕ → ℕ
width_of method face = max (clear_bound method (above_bound face)).width (clear_bound method (below_bound face)).width

unfoldable pub level_width_of : ℕ → ℕ → ℕ
level_width_of method face = (clear_bound method (level_bound face)).width

pub widths : (width_of 1 1 ≡ 1_669_700_001) × (width_of 1 2 ≡ 1_117_500_001) × (width_of 1 3 ≡ 2_342_508_234) × (width_of 2 1 ≡ 5_702_500_001) × (width_of 2 2 ≡ 3_634_700_001) × (width_of 2 3 ≡ 7_885_618_801) × (width_of 3 1 ≡ 3_431_100_001) × (width_of 3 2 ≡ 2_293_920_001) × (width_of 3 3 ≡ 4_811_709_935)
unfolding opened width_of clear_bound emissive_bound above_bound below_bound face_bound
widths = (refl, refl, refl, refl, refl, refl, refl, refl, refl)

pub level_widths : (level_width_of 1 1 ≡ 190_100_001) × (level_width_of 1 2 ≡ 165_600_001) × (level_width_of 1 3 ≡ 469_422_433) × (level_width_of 2 1 ≡ 668_500_001) × (level_width_of 2 2 ≡ 545_200_001) × (level_width_of 2 3 ≡ 1_575_649_057) × (level_width_of 3 1 ≡ 390_900_001) × (level_width_of 3 2 ≡ 340_020_001) × (level_width_of 3 3 ≡ 964_253_818)
unfolding opened level_width_of clear_bound emissive_bound level_bound face_bound
level_widths = (refl, refl, refl, refl, refl, refl, refl, refl, refl)

-- ---- whatever the method, the face and the height, E·F is not refused
-- Each method, on each of the faces.
abbrev face_tests : Bound → List Bool → List Bool
face_tests F rest = (B.product emissive_bound_1 F).safe ∷ (B.product emissive_bound_2 F).safe ∷ (B.product emissive_bound_3 F).safe ∷ rest

abbrev flux_tests : Bound → Bound → List Bool
flux_tests upright level = face_tests upright (face_tests level (face_tests (B.exposed upright level) []))

by_method : (method : ℕ) (F : Bound) → T (B.product emissive_bound_1 F).safe → T (B.product emissive_bound_2 F).safe → T (B.product emissive_bound_3 F).safe → T (clear_bound method F).safe
unfolding clear_bound emissive_bound
by_method method F s t w =
    let P : Bound → Type 0 = λ b. T (B.product b F).safe in
    either P (eqb method 1) s (either P (eqb method 2) t w)

by_method_and_face : (upright level : Bound) → T (every (flux_tests upright level)) → (method face : ℕ) → T (clear_bound method (face_bound face upright level)).safe
unfolding face_bound
by_method_and_face upright level t method face =
    let c = each (flux_tests upright level) t in
    let c₃ = c.1.1.1 in
    let c₆ = c₃.1.1.1 in
    either (λ b. T (clear_bound method b).safe) (eqb face 1) (by_method method upright c.0 c.1.0 c.1.1.0)
    (either (λ b. T (clear_bound method b).safe) (eqb face 2) (by_method method level c₃.0 c₃.1.0 c₃.1.1.0)
    (by_method method (B.exposed upright level) c₆.0 c₆.1.0 c₆.1.1.0))

above_safe : (method face : ℕ) → T (clear_bound method (above_bound face)).safe
unfolding opened above_bound
above_safe = by_method_and_face _ _ tt

below_safe : (method face : ℕ) → T (clear_bound method (below_bound face)).safe
unfolding opened below_bound
below_safe = by_method_and_face _ _ tt

level_safe : (method face : ℕ) → T (clear_bound method (level_bound face)).safe
unfolding opened level_bound
level_safe = by_method_and_face _ _ tt

-- ---- one enquiry
abbrev height_bound : Bool → ℕ → Bound
height_bound from_the_base_up face = elim from_the_base_up [ true ↦ above_bound face | false ↦ below_bound face ]

module _ (E : Enquiry) (t : Tested E) where
  placement : Placement (relative_height_of answers E) (relative_elevation_of answers E) (relative_distance_of answers E)
  placement =
      let w = limited E t in
      let d = (numbers E w).distance in
      record {
        height = high_flame E t;
        height_near = chain.height_near E w;
        elevation = chain.elevation_held E w;
        distance = record { held = chain.distance_held E w; near = (chain.area E w).distance_near d.low d.high };
      }

  power_held : Held (emissive_power_of answers E) (emissive_bound E.method)
  power_held = chain.power_held E (limited E t)

  at_height : (from_the_base_up : Bool) → Held (answers.product (emissive_power_of answers E) (factor_at answers from_the_base_up E.face (relative_height_of answers E) (relative_elevation_of answers E) (relative_distance_of answers E))) (clear_bound E.method (height_bound from_the_base_up E.face))
  unfolding clear_bound
  at_height true = (within.product (known power_held) (above_within placement E.face)).where_safe (above_safe E.method E.face)
  at_height false = (within.product (known power_held) (below_within placement E.face)).where_safe (below_safe E.method E.face)

  within_width : (from_the_base_up : Bool) → (clear_bound E.method (height_bound from_the_base_up E.face)).width ≤ width_of E.method E.face
  unfolding width_of
  within_width true = le-max_left _ _
  within_width false = le-max_right _ _

  pub flux_near : (radiant_flux rounded E).high ≤ (radiant_flux rounded E).low + (width_of E.method E.face + 1)
  unfolding clear_flux configuration_factor_of
  flux_near =
      let up = non_neg E.height in
      let i = chain.agreed_inside (clear_flux_kept agreement E) (at_height up) in
      hazy_near E (numbers E (limited E t)).transmissivity.high _ (omega (arith, i.near, within_width up))

  level_held : Held (answers.product (emissive_power_of answers E) (factor answers E.face (relative_height_of answers E) (relative_distance_of answers E))) (clear_bound E.method (level_bound E.face))
  unfolding clear_bound
  level_held = (within.product (known power_held) (level_within placement E.face)).where_safe (level_safe E.method E.face)

  pub level_near : E.height ≡ pos 0 → (radiant_flux rounded E).high ≤ (radiant_flux rounded E).low + (level_width_of E.method E.face + 1)
  unfolding level_width_of
  level_near level =
      let K = agreement.product (emissive_power_of_kept agreement E) (factor_kept agreement E.face (relative_height_of_kept agreement E) (relative_distance_of_kept agreement E)) in
      hazy_near E (numbers E (limited E t)).transmissivity.high _ (rw (clear_level E level) (chain.agreed_inside K level_held).near)
