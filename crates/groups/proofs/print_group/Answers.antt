-- None of the three floats is a NaN, so its bits are defined.
use Rattle.drawing.proofs.Plain.{each_plain, no_nan}
use Rattle.groups.proofs.print_group.Goals as goal

pub float_to_bits-low : goal.float_to_bits-low
float_to_bits-low g c = no_nan c.args.g.low (each_plain c.args.g c.requires).low

pub float_to_bits-middle : goal.float_to_bits-middle
float_to_bits-middle g c = no_nan c.args.g.middle (each_plain c.args.g c.requires).middle

pub float_to_bits-high : goal.float_to_bits-high
float_to_bits-high g c = no_nan c.args.g.high (each_plain c.args.g c.requires).high
