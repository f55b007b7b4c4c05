-- `enquiry` meets its contract: each number is read at its own place.
-- Assumes nothing.
use mathlib.Core.Path.{◌∙◌}
use Prim.Native.Nat.{◌+◌}
use mir.Syntax.{w32}
use mir.ValLaws.{to_z-of_z}
use Rattle.sheet.specs.Layout.{method_offset, face_offset}
use Rattle.sheet.specs.Bytes.{one}
use Rattle.sheet.specs.Target.{enquiry_at}
use Rattle.sheet.proofs.target.enquiry.Goals as goal

pub returns : goal.returns
unfolding enquiry_at one
returns c =
    let h = c.four_signed in
    λ j. record {
      rate = c.two.ensures j;
      absorption = c.two-2.ensures j;
      heat = c.two-3.ensures j;
      area = c.four.ensures j;
      method = one c.args.sheet.now (c.args.pool + method_offset);
      distance = c.four-2.ensures j;
      face = one c.args.sheet.now (c.args.target + face_offset);
      height = (to_z-of_z w32 h.result (record { sfits = h.type_inv }) ∙ h.ensures) j;
      transmissivity = c.two-4.ensures j;
    }
