-- A flame that is not too low: l is at least 0.4. From the flame test, by the law of a quarter of the diameter. Assumes nothing.
use mathlib.Core.Bool.{true}
use Prim.Native.Nat.{◌*◌, ◌≤◌}
use native.Mathlib.Omega.{arith}
use borrow.Author.Tests.{ltb-false}
use Rattle.pairs.specs.Rounded.{rounded}
use Rattle.pairs.specs.Answers.{answers}
use Rattle.pairs.proofs.Agreement.{agreement}
use Rattle.chain.specs.declared.enquiry.Enquiry.{Enquiry}
use Rattle.chain.specs.Chain.{diameter_of, flame_height_of, relative_height_of}
use Rattle.chain.specs.Flux.{flame_too_low}
use Rattle.chain.proofs.Bounds.{Bound}
use Rattle.chain.proofs.Within.{Held}
use Rattle.chain.proofs.Steps.{diameter_of_kept, relative_height_of_kept}
use Rattle.chain.proofs.Configuration.{relative_height_bound}
use Rattle.chain.proofs.Radii.{quarter_in_radii}
use Rattle.chain.proofs.Limits.{Tested, limited, flame_high_enough}
use Rattle.chain.proofs.Unrefused.{area, height_held, agreed_inside}

abbrev pub high_flame_bound : Bound
high_flame_bound = record { least = 400_000_000_000; most = relative_height_bound.most; width = relative_height_bound.width; safe = true }

module _ (E : Enquiry) (t : Tested E) where
  high_enough : (diameter_of rounded E).high ≤ 4 * (flame_height_of rounded E).low
  unfolding flame_too_low
  high_enough = ltb-false (4 * (flame_height_of rounded E).low) (diameter_of rounded E).high (flame_high_enough E t)

  least_height : 400_000_000_000 ≤ (relative_height_of rounded E).low
  unfolding relative_height_of
  least_height =
      let d = agreed_inside (diameter_of_kept agreement E) (area E (limited E t)).diameter in
      quarter_in_radii (flame_height_of rounded E) (diameter_of rounded E) (omega (arith, d.low, d.ordered)) high_enough

  pub high_flame : Held (relative_height_of answers E) high_flame_bound
  high_flame =
      let h = height_held E (limited E t) in
      let i = h.inside in
      record {
        given = h.given;
        inside =
            record {
              low = rw ((relative_height_of_kept agreement E).same h.given) least_height;
              ordered = i.ordered;
              high = i.high;
              near = i.near;
            };
      }
