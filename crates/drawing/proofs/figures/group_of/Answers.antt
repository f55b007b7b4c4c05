-- `group_of` meets its contract: the floats 2 and 0 of the code are those of the numbers.
-- Assumes nothing.
use mathlib.Core.Path.{sym, ap, ◌∙◌}
use lib.Ieee.{of_bits, of_int}
use Rattle.drawing.specs.Floats.{float, middle}
use Rattle.drawing.specs.Figures.{group_of}
use Rattle.drawing.proofs.figures.group_of.Goals as goal

pub returns-in-Answered : goal.returns-in-Answered
unfolding group_of middle float of_int of_bits
returns-in-Answered c = sym (ap group_of c.in-Answered.is)

pub returns-in-Refused : goal.returns-in-Refused
unfolding group_of float of_int of_bits
returns-in-Refused c =
    let zeros = c.default.ensures in
    (λ i. record { low = zeros.0 i; middle = zeros.1.0 i; high = zeros.1.1 i }) ∙ sym (ap group_of c.in-Refused.is)
