-- `put_refusal` meets its contract: the word, then the number.
-- Assumes nothing.
use native.Mathlib.Omega.{arith}
use Rattle.sheet.proofs.Digits.{few_digits, field_length}
use Rattle.sheet.proofs.Printing.{refusal_put}
use Rattle.sheet.proofs.report.put_refusal.Goals as goal

pub field-requires : goal.field-requires
field-requires c = let s = few_digits 2 c.from.result (omega arith) in omega (arith, field_length)

pub returns : goal.returns
returns c =
    let s = few_digits 2 c.from.result (omega arith) in
    rw (← c.from.ensures) (refusal_put c.from.result c.word.ensures c.field.ensures (omega (arith, field_length)))
