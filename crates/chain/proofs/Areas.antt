-- Every area inside its limits: D, e, a height in radii, and l and E of every flame.
-- By one sweep over the area, and in it one over the heat release rate and one over the burning rate. Assumes nothing.
use mathlib.Core.Path.{◌≡◌, refl}
use Prim.Native.Nat.{ℕ, ◌+◌, ◌/◌, ◌≤◌, min}
use native.Mathlib.Omega.{arith}
use lib.Dec.{T}
use Rattle.chain.proofs.Opened.{opened}
use Rattle.chain.proofs.Sweep.{sweep, swept}
use Rattle.chain.proofs.Burning.{burning_width}
use Rattle.chain.proofs.Limits.{Fuel}
use Rattle.chain.proofs.Flame.{rate_test}
use Rattle.chain.proofs.AreaBox.{heat_box, mass_box, area_test, Area, area_tested}
use Rattle.chain.specs.declared.enquiry.Enquiry.{Enquiry}

abbrev next_area : ℕ → ℕ
next_area a = min (a + a / 2) 190_001

area_sweep : T (sweep area_test next_area 40 100 190_001)
unfolding opened area_test rate_test heat_box mass_box burning_width
area_sweep = tt

pub areas : (E : Enquiry) → 100 ≤ E.area → E.area ≤ 190_000 → Fuel E → Area E
areas E l u F =
    swept area_test next_area (λ n. (E : Enquiry) → n ≡ E.area → Fuel E → Area E) area_tested 40 100 190_001 area_sweep E.area l (omega arith) E refl F
