-- Demand 3: the exact chain overlaps the rounded one, which is not refused and is narrow for every accepted enquiry; what is
-- shown is that pair, brought outwards to whole W/m². Assumes nothing.
use mathlib.Core.Path.{refl}
use Prim.Native.Nat.{ℕ, ◌*◌}
use native.Mathlib.Omega.{arith}
use Rattle.pairs.specs.Rounded.{U, up, down}
use Rattle.chain.specs.declared.enquiry.Enquiry.{Enquiry}
use Rattle.chain.specs.Flux.{low_of, high_of}
use Rattle.chain.proofs.Limits.{Tested, numbers, limited, shown, accepted_tested}
use Rattle.chain.proofs.Unrefused.{unrefused}
use Rattle.widths.proofs.Printed.{widths, within_20}
use Rattle.exact.specs.Fraction.{◌⊑◌, whole, ◌⊗◌}
use Rattle.exact.specs.Depth.{times}
use Rattle.exact.specs.Demand.{exact_bracket, Demand3}
use Rattle.exact.proofs.Order.{◌⟫◌, ⊑_refl, ⊗-mono}
use Rattle.exact.proofs.Overlap.{trillionths}
use Rattle.exact.proofs.Flux.{Limits, radiant_flux_meets}

-- ---- whole W/m² against trillionths of kW/m²
watts_down : (a : ℕ) → whole (down (1000 * a) U) ⊑ trillionths a ⊗ whole 1000
unfolding whole trillionths ◌⊗◌ down
watts_down a = record { cross = omega arith }

watts_up : (b : ℕ) → trillionths b ⊗ whole 1000 ⊑ whole (up (1000 * b) U)
unfolding whole trillionths ◌⊗◌ up
watts_up b = record { cross = omega arith }

spans : (E : Enquiry) → Tested E → Limits E
spans E t =
    let n = numbers E (limited E t) in
    record { least_area = n.area.low; most_area = n.area.high; least_distance = n.distance.low }

pub demand_3 : Demand3
unfolding exact_bracket times low_of high_of
demand_3 E accepted n deep =
    let tested = accepted_tested E accepted in
    let given = (unrefused E (limited E tested)).flux_given in
    let meets = rw given at (radiant_flux_meets E (spans E tested) n deep) in
    let seen = shown E tested in
    record {
      divisors_above_0 = meets.sound.defined;
      low_below = rw seen (watts_down _ ⟫ ⊗-mono (meets.overlap refl).low ⊑_refl);
      high_above = rw seen (⊗-mono (meets.overlap refl).high ⊑_refl ⟫ watts_up _);
      narrow = omega (arith, (widths E accepted).near, within_20 E.method E.face);
    }
