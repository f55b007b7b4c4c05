-- No operation of the chain refuses an enquiry that none of 11 to 15, 18 and 19 refuses: by any method, at any height, through any
-- haze, and whether or not its flame is too low. The pair it gives is ordered and fits. From the sweeps, by the agreement of answers
-- and rounded pairs. Assumes nothing.
use mathlib.Core.Path.{◌≡◌, subst}
use mathlib.Core.Bool.{true}
use Prim.Native.Nat.{ℕ, ◌+◌, ◌*◌, ◌≤◌}
use native.Mathlib.Nat.{le_trans, mul-le-mul_left}
use native.Mathlib.Omega.{arith}
use lib.Dec.{T, eqb, lit<}
use lib.IntN.{nat_abs}
use lib.Signed.{non_neg}
use Rattle.pairs.specs.declared.answer.Pair.{Pair}
use Rattle.pairs.specs.Rounded.{U, rounded, up, down}
use Rattle.pairs.specs.Figures.{Figures, given}
use Rattle.pairs.specs.Answers.{answers}
use Rattle.pairs.proofs.Agreement.{Agrees, agreed, agreement}
use Rattle.chain.specs.declared.enquiry.Enquiry.{Enquiry}
use Rattle.chain.specs.Chain.{diameter_of, flame_height_of, emissive_power_of, relative_height_of, relative_elevation_of, relative_distance_of, configuration_factor_of, transmitted, clear_flux, radiant_flux}
use Rattle.chain.specs.Private.{Limited, Spaced}
use Rattle.chain.proofs.Bounds as B
use Rattle.chain.proofs.Bounds.{Bound, bound}
use Rattle.chain.proofs.Inside.{Inside}
use Rattle.chain.proofs.Within.{Held, within}
use Rattle.chain.proofs.Steps.{diameter_of_kept, flame_height_of_kept, emissive_power_of_kept, clear_flux_kept, radiant_flux_kept}
use Rattle.chain.proofs.Boxes.{known, passing, passed, times_over_held, either}
use Rattle.chain.proofs.Configuration.{relative_height_bound, elevation_bound, relative_distance_bound, spaced, factor_at_held}
use Rattle.chain.proofs.Limits.{numbers}
use Rattle.chain.proofs.Flame.{flame_width, emissive_bound_1, emissive_bound_2, emissive_bound_3, emissive_bound}
use Rattle.chain.proofs.AreaBox.{Area}
use Rattle.chain.proofs.Areas.{areas}
use Rattle.chain.proofs.Haze.{transmitted_ordered, transmitted_high}

-- What holds of an answer holds of the rounded pair that it gives.
pub agreed_inside : {f : Figures} {p : Pair} {b : Bound} → Agrees f p → Held f b → Inside p b
agreed_inside {b = b} a h = subst (λ p. Inside p b) (a.same h.given) h.inside

-- E·F in trillionths of a kW/m², whatever the method, the face and the height.
abbrev clear_bound : Bound
clear_bound = record { least = 0; most = 6_300 * U; width = 2_100 * U; safe = true }

-- Method 2 has the widest span.
widest : (method : ℕ) → T (passing emissive_bound_2 (emissive_bound method))
unfolding emissive_bound passing
widest method =
    let P : Bound → Type 0 = λ b. T (passing emissive_bound_2 b) in
    either P (eqb method 1) {x = emissive_bound_1} tt (either P (eqb method 2) {x = emissive_bound_2} {y = emissive_bound_3} tt tt)

module _ (E : Enquiry) (w : Limited E) where
  -- ---- what the sweeps say of D, L, E, l, h and e
  pub area : Area E
  area = let n = numbers E w in areas E n.area.low n.area.high n.fuel

  pub distance_held : Held (relative_distance_of answers E) relative_distance_bound
  distance_held = let d = (numbers E w).distance in area.distance d.low d.high

  pub distance_spaced : Spaced (relative_distance_of answers E)
  distance_spaced = spaced distance_held

  pub elevation_held : Held (relative_elevation_of answers E) elevation_bound
  unfolding relative_elevation_of
  elevation_held = area.elevation (nat_abs E.height) (numbers E w).height

  pub height_held : Held (relative_height_of answers E) relative_height_bound
  unfolding relative_height_of flame_height_of
  height_held = area.flame.height

  -- as wide as e allows
  pub height_near : (relative_height_of answers E).pair.high ≤ (relative_height_of answers E).pair.low + flame_width (relative_distance_of answers E).pair.low
  unfolding relative_height_of flame_height_of
  height_near = let d = (numbers E w).distance in area.flame.height_near d.low d.high

  pub power_held : Held (emissive_power_of answers E) (emissive_bound E.method)
  unfolding emissive_power_of
  power_held = area.flame.power

  any_power_held : Held (emissive_power_of answers E) emissive_bound_2
  any_power_held = passed emissive_bound_2 (widest E.method) (known power_held)

  pub power_inside : Inside (emissive_power_of rounded E) emissive_bound_2
  power_inside = agreed_inside (emissive_power_of_kept agreement E) any_power_held

  -- ---- q
  clear_held : Held (clear_flux answers E) clear_bound
  unfolding clear_flux configuration_factor_of passing B.product bound up down
  clear_held =
      passed clear_bound tt
      (within.product (known any_power_held)
      (known (factor_at_held height_held elevation_held distance_spaced (non_neg E.height) E.face)))

  -- 1,000 times E·F is below 2^64 trillionths, so neither operation of the haze refuses.
  flux_not_refused : (radiant_flux answers E).number ≡ 0
  unfolding radiant_flux transmitted
  flux_not_refused =
      (times_over_held E.transmissivity 1000 tt (lit< tt) (omega (arith, mul-le-mul_left clear_bound.most (numbers E w).transmissivity.high)) clear_held).given

  flame_not_refused : (flame_height_of answers E).number ≡ 0
  unfolding flame_height_of
  flame_not_refused = area.flame.not_refused

pub record Unrefused (E : Enquiry) : Type 0 where
  pub diameter_given : diameter_of answers E ≡ given (diameter_of rounded E)
  pub flame_height_given : flame_height_of answers E ≡ given (flame_height_of rounded E)
  -- No operation of the chain is refused: not by 61, 62, 63 or 64.
  pub flux_given : radiant_flux answers E ≡ given (radiant_flux rounded E)
  pub ordered : (radiant_flux rounded E).low ≤ (radiant_flux rounded E).high
  pub high : (radiant_flux rounded E).high ≤ 6_300 * U

pub unrefused : (E : Enquiry) → Limited E → Unrefused E
unfolding radiant_flux
unrefused E w =
    let i = agreed_inside (clear_flux_kept agreement E) (clear_held E w) in
    let clear = clear_flux rounded E in
    let most = (numbers E w).transmissivity.high in
    record {
      diameter_given = agreed (diameter_of_kept agreement E) (area E w).diameter.given;
      flame_height_given = agreed (flame_height_of_kept agreement E) (flame_not_refused E w);
      flux_given = agreed (radiant_flux_kept agreement E) (flux_not_refused E w);
      ordered = transmitted_ordered clear most i.ordered;
      high = le_trans (transmitted_high clear most) i.high;
    }
