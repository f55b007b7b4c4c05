-- The enquiry of a target, read from its own entry, its pool and that pool's fuel, and what is shown for it.
use Rattle.std.specs.Prelude.{ℕ, ◌+◌, List}
use Rattle.chain.specs.declared.enquiry.Enquiry.{Enquiry}
use Rattle.chain.specs.Flux.{Shown, flux_of}
use Rattle.sheet.specs.Layout.{absorption_offset, heat_offset, method_offset, distance_offset, face_offset, height_offset, transmissivity_offset, fuel_at, pool_at, target_at}
use Rattle.sheet.specs.Bytes.{one, two, four, four_signed}
use Rattle.sheet.specs.Reading.{fuels_of, pools_of, fuel_index, pool_index}

-- "Fuel: m, k, c, 2 bytes each. Pool: a in 4, fuel index in 2, method in 1. Target: pool index in 2, d in 4, face in 1."
-- Request 1: "a signed height .., 4 bytes in two's complement after the face". Request 3: the transmissivity,
-- "2 bytes after the height".
unfoldable pub enquiry_at : List ℕ → ℕ → ℕ → ℕ → Enquiry
enquiry_at s fuel pool target =
    record {
      rate = two s fuel;
      absorption = two s (fuel + absorption_offset);
      heat = two s (fuel + heat_offset);
      area = four s pool;
      method = one s (pool + method_offset);
      distance = four s (target + distance_offset);
      face = one s (target + face_offset);
      height = four_signed s (target + height_offset);
      transmissivity = two s (target + transmissivity_offset);
    }

unfoldable pub enquiry_of : List ℕ → ℕ → Enquiry
enquiry_of s i =
    enquiry_at s (fuel_at (fuel_index s (pool_index s i))) (pool_at (fuels_of s) (pool_index s i))
    (target_at (fuels_of s) (pools_of s) i)

-- What the desk shows for target i.
unfoldable pub shown_of : List ℕ → ℕ → Shown
shown_of s i = flux_of (enquiry_of s i)
