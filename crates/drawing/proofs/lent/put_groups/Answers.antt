-- `put_groups` meets its contract: the groups of the answers passed stand at the front.
-- Assumes nothing.
use mathlib.Core.Path.{refl}
use native.Mathlib.Omega.{arith}
use Rattle.sheet.specs.Private.{pasted}
use Rattle.drawing.specs.Groups.{listed}
use Rattle.drawing.specs.Lent.{laid_out}
use Rattle.drawing.specs.Private.{group_in}
use Rattle.drawing.proofs.Listing.{one_laid_out}
use Rattle.drawing.proofs.lent.put_groups.Goals as goal

pub loop-i-init : goal.loop-i-init
unfolding pasted listed laid_out
loop-i-init c = (refl, refl)

pub loop-i-preserved : goal.loop-i-preserved
loop-i-preserved c =
    let l = c.loop-i in (
      omega (arith, c.put_group.auto.out, l.invariant.0),
      one_laid_out (group_in c.args.answers.now) c.args.out.now l.out _ l.i _ (omega (arith, c.requires.2, c.loop-i-test.true)) l.invariant.1 c.group_in.ensures c.put_group.ensures,
    )
