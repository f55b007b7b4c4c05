-- `put_answers` meets its contract: the answers of the targets passed stand at the front.
-- Assumes nothing.
use mathlib.Core.Path.{refl}
use native.Mathlib.Omega.{arith}
use Rattle.sheet.specs.Fill.{answers}
use Rattle.sheet.specs.Private.{pasted}
use Rattle.sheet.proofs.Filling.{one_more}
use Rattle.sheet.proofs.fill.put_answers.Goals as goal

pub loop-i-init : goal.loop-i-init
unfolding pasted answers
loop-i-init c = refl

pub loop-i-preserved : goal.loop-i-preserved
loop-i-preserved c =
    one_more c.args.sheet.now.bytes.now c.args.out.now c.loop-i.out _ c.loop-i.i _ (omega arith) c.loop-i.invariant c.target.ensures c.put_answer.ensures
