-- The groups of the answers passed stand at the front, and three zeros behind them.
use Rattle.std.proofs.Common.{◌≡◌, length}
use lib.ListN.{replicate}
use Rattle.sheet.specs.Layout.{most_targets}
use Rattle.sheet.specs.Private.{pasted}
use Rattle.drawing.specs.Figures.{three_zeros}
use Rattle.drawing.specs.Groups.{listed}
use Rattle.drawing.specs.Private.{group_in}
use Rattle.drawing.proofs.groups.groups_in.Given as goal

abbrev pub invariant-loop-i : goal.invariant-loop-i
invariant-loop-i l = (length l.groups ≡ most_targets) × (l.groups ≡ pasted (replicate most_targets three_zeros) 0 (listed (group_in l.answers) l.i))
