-- `put_figures` meets its contract: the first line, then the lines of the targets.
-- Assumes nothing.
use native.Mathlib.Omega.{arith}
use Rattle.sheet.proofs.Digits.{few_digits, field_length}
use Rattle.sheet.proofs.Printing.{figures_put}
use Rattle.sheet.proofs.report.put_figures.Goals as goal

pub field-requires : goal.field-requires
field-requires c =
    let s = few_digits 2 c.args.sheet.now.counts.targets (omega arith) in omega (arith, field_length)

pub put_lines-requires : goal.put_lines-requires
put_lines-requires c =
    let s = few_digits 2 c.args.sheet.now.counts.targets (omega arith) in omega (arith, field_length)

pub returns : goal.returns
returns c =
    let s = few_digits 2 c.args.sheet.now.counts.targets (omega arith) in
    figures_put c.args.sheet.now.bytes.now c.args.sheet.now.counts.targets c.word.ensures c.field.ensures c.put_lines.ensures.0 (omega (arith, field_length))
