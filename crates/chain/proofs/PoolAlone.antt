-- What belongs to the pool: its flame does not depend on where a target stands, on its face and height, or on the air; and R is given by
-- the area alone, inside the limits of 12. By the text of the steps, and the bounds of D. Assumes nothing.
use mathlib.Core.Path.{◌≡◌, refl, ap}
use mathlib.Core.Bool.{true}
use Prim.Native.Nat.{ℕ, ◌*◌, ◌≤◌}
use lib.Dec.{ltb, lit≤}
use lib.IntN.{ℤ, pos}
use Rattle.pairs.specs.declared.answer.Pair.{Pair}
use Rattle.pairs.specs.Arithmetic.{Arithmetic}
use Rattle.pairs.specs.Rounded.{U, up, down, rounded}
use Rattle.pairs.specs.Figures.{given}
use Rattle.pairs.specs.Answers.{answers}
use Rattle.pairs.proofs.Agreement.{agreed, agreement}
use Rattle.chain.specs.declared.enquiry.Enquiry.{Enquiry}
use Rattle.chain.specs.Chain.{Flame, diameter, radius, diameter_of, unabsorbed_of, heat_release_of, burning_rate_of, froude_number_of, flame_1_of, flame_2_of, flame_3_of, flame_of, flame_height_of}
use Rattle.chain.specs.Flux.{flame_too_low}
use Rattle.chain.proofs.Bounds as B
use Rattle.chain.proofs.Bounds.{Bound, bound}
use Rattle.chain.proofs.Within.{Held, within}
use Rattle.chain.proofs.Steps.{diameter_kept}
use Rattle.chain.proofs.Boxes.{known, passing, passed}
use Rattle.chain.proofs.Limits.{Fuel}
use Rattle.chain.proofs.Areas.{areas}

-- ---- the flame
-- The same pool, seen from elsewhere.
abbrev pub from_elsewhere : Enquiry → ℕ → ℕ → ℤ → ℕ → Enquiry
from_elsewhere E distance face height transmissivity =
    record {
      rate = E.rate;
      absorption = E.absorption;
      heat = E.heat;
      area = E.area;
      method = E.method;
      distance = distance;
      face = face;
      height = height;
      transmissivity = transmissivity;
    }

module _ (E : Enquiry) (distance face : ℕ) (height : ℤ) (transmissivity : ℕ) where
  abbrev G : Enquiry
  G = from_elsewhere E distance face height transmissivity

  pub same_flame : (A : Arithmetic) → flame_of A G ≡ flame_of A E
  unfolding flame_of flame_1_of flame_2_of flame_3_of diameter_of unabsorbed_of heat_release_of burning_rate_of froude_number_of
  same_flame A = refl

  pub same_flame_test : flame_too_low G ≡ flame_too_low E
  unfolding flame_too_low flame_height_of diameter_of
  same_flame_test = ap (λ (f : Flame Pair). ltb (4 * f.height.low) (diameter_of rounded E).high) (same_flame rounded)

-- ---- the radius
-- R from the area in dm².
abbrev pub radius_by : (A : Arithmetic) → ℕ → A.Carrier
radius_by A area = radius A (diameter A (A.constant (4 * area) 100))

abbrev pub radius_bound : Bound
radius_bound = record { least = 0; most = 25 * U; width = 3_001; safe = true }

module _ (area : ℕ) (l : 100 ≤ area) (h : area ≤ 190_000) where
  -- The fuel does not matter: here it is that of ISO 24678-7, A.8.
  abbrev kerosene : Enquiry
  kerosene =
      record {
        rate = 39;
        absorption = 350;
        heat = 432;
        area = area;
        method = 1;
        distance = 1_000;
        face = 1;
        height = pos 0;
        transmissivity = 1;
      }

  fuel : Fuel kerosene
  fuel =
      record {
        rate = record { low = lit≤ tt; high = lit≤ tt };
        absorption = record { low = lit≤ tt; high = lit≤ tt };
        heat = record { low = lit≤ tt; high = lit≤ tt };
      }

  pub radius_held : Held (radius_by answers area) radius_bound
  unfolding radius diameter_of passing B.over bound up down
  radius_held = passed radius_bound tt (within.over (known (areas kerosene l h fuel).diameter) 2)

  pub radius_given : radius_by answers area ≡ given (radius_by rounded area)
  unfolding radius
  radius_given = agreed (agreement.over (diameter_kept agreement (agreement.constant (4 * area) 100)) 2) radius_held.given
