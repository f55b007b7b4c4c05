-- `put_lines` meets its contract: the lines of the targets passed stand one after the other.
-- Assumes nothing.
use native.Mathlib.Omega.{arith}
use Rattle.sheet.proofs.Printing.{no_lines, one_line}
use Rattle.sheet.proofs.report.put_lines.Goals as goal

pub loop-i-init : goal.loop-i-init
loop-i-init c = record { written = no_lines _ _; room = omega arith }

pub loop-i-preserved : goal.loop-i-preserved
loop-i-preserved c =
    let few = c.args.sheet.now.sound.few in
    record {
      written = one_line _ c.loop-i.i _ c.loop-i.invariant.written c.put_line.ensures.0 c.target.ensures (omega arith);
      room = omega arith;
    }
