-- Request 7: "Given fuel, area, method, face, height, transmissivity": an enquiry without its distance.
use Rattle.std.specs.Prelude.{ℕ}
use Rattle.chain.specs.declared.enquiry.Enquiry.{Enquiry}
use Rattle.planning.specs.declared.scenario.Scenario.{Scenario}

-- The enquiry at a rim distance in mm.
abbrev pub at_distance : Scenario → ℕ → Enquiry
at_distance S distance =
    record {
      rate = S.rate;
      absorption = S.absorption;
      heat = S.heat;
      area = S.area;
      method = S.method;
      distance = distance;
      face = S.face;
      height = S.height;
      transmissivity = S.transmissivity;
    }
