-- `digit_count` meets its contract: each division takes one digit off, and the last is one.
-- Assumes nothing.
use mathlib.Core.Path.{ap}
use native.Mathlib.Omega.{arith}
use lib.ListN.{length}
use Rattle.sheet.proofs.Digits.{one_digit, digits_more, few_digits}
use Rattle.sheet.proofs.text.digit_count.Goals as goal

pub overflow_add-count : goal.overflow_add-count
overflow_add-count c = omega (arith, few_digits 9 c.args.n (omega arith))

pub loop-left-preserved : goal.loop-left-preserved
loop-left-preserved c = omega (arith, digits_more c.loop-left.left (omega arith))

pub returns : goal.returns
returns c = omega (arith, ap length (one_digit c.loop-left.left (omega arith)))
