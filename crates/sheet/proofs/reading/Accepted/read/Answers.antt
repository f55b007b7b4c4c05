-- `read` meets its contract: the counts of an accepted sheet are sound.
-- Assumes nothing.
use mathlib.Core.Path.{refl, sym}
use Rattle.std.specs.Prelude.{Ok}
use Rattle.sheet.specs.Reading.{outcome}
use Rattle.sheet.proofs.Sections.{sound}
use Rattle.sheet.proofs.reading.Accepted.read.Goals as goal

pub invariant_of-result : goal.invariant_of-result
invariant_of-result c =
    record { sound = sound _ (outcome (Ok c.in_ok-counts.counts)) (sym c.in_ok-counts.ensures) refl }
