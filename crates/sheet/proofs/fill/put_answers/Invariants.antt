-- `put_answers` meets its contract: the answers of the targets passed stand at the front.
use mathlib.Core.Path.{◌≡◌}
use Rattle.sheet.specs.Fill.{answers}
use Rattle.sheet.specs.Private.{pasted}
use Rattle.sheet.proofs.fill.put_answers.Given as goal

abbrev pub invariant-loop-i : goal.invariant-loop-i
invariant-loop-i l = l.out ≡ pasted l.initial.out 0 (answers l.sheet.bytes.now l.i)
