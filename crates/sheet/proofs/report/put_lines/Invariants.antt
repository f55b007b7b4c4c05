-- `put_lines` meets its contract: the lines of the targets passed stand one after the other.
use Prim.Native.Nat.{◌+◌, ◌*◌, ◌≤◌}
use Rattle.sheet.specs.Report.{lines, line_room}
use Rattle.sheet.specs.Private.{Writes}
use Rattle.sheet.proofs.report.put_lines.Given as goal

abbrev pub invariant-loop-i : goal.invariant-loop-i
invariant-loop-i l =
    record {
      written : Writes l.initial.text (lines l.sheet.bytes.now l.i) l.text;
      room : l.text.len ≤ l.initial.text.len + line_room * l.i;
    }
