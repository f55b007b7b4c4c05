-- The groups of the answers passed stand at the front.
use Rattle.std.proofs.Common.{◌≡◌, length}
use Rattle.sheet.specs.Private.{pasted}
use Rattle.drawing.specs.Groups.{listed}
use Rattle.drawing.specs.Lent.{laid_out}
use Rattle.drawing.specs.Private.{group_in}
use Rattle.drawing.proofs.lent.put_groups.Given as goal

abbrev pub invariant-loop-i : goal.invariant-loop-i
invariant-loop-i l = (length l.out ≡ length l.initial.out) × (l.out ≡ pasted l.initial.out 0 (laid_out (listed (group_in l.answers) l.i)))
