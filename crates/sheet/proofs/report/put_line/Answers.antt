-- `put_line` meets its contract: five fields, each short enough for the room.
-- Assumes nothing.
use native.Mathlib.Omega.{arith}
use Rattle.sheet.specs.Private.{shown_by}
use Rattle.sheet.proofs.Digits.{field_length}
use Rattle.sheet.proofs.Printing.{short, line_put}
use Rattle.sheet.proofs.report.put_line.Goals as goal

pub field-requires : goal.field-requires
field-requires c =
    let s = short c.args.i (shown_by c.from-e.result) (omega arith) (omega arith) (omega arith) (omega arith) (omega arith) in omega (arith, field_length)

pub field-requires-2 : goal.field-requires-2
field-requires-2 c =
    let s = short c.args.i (shown_by c.from-e.result) (omega arith) (omega arith) (omega arith) (omega arith) (omega arith) in omega (arith, field_length)

pub field-requires-3 : goal.field-requires-3
field-requires-3 c =
    let s = short c.args.i (shown_by c.from-e.result) (omega arith) (omega arith) (omega arith) (omega arith) (omega arith) in omega (arith, field_length)

pub field-requires-4 : goal.field-requires-4
field-requires-4 c =
    let s = short c.args.i (shown_by c.from-e.result) (omega arith) (omega arith) (omega arith) (omega arith) (omega arith) in omega (arith, field_length)

pub field-requires-5 : goal.field-requires-5
field-requires-5 c =
    let s = short c.args.i (shown_by c.from-e.result) (omega arith) (omega arith) (omega arith) (omega arith) (omega arith) in omega (arith, field_length)

pub returns : goal.returns
returns c =
    let s = short c.args.i (shown_by c.from-e.result) (omega arith) (omega arith) (omega arith) (omega arith) (omega arith) in
    (rw (← c.from-e.ensures) (line_put c.args.i (shown_by c.from-e.result) (omega (arith, field_length)) c.field.ensures c.field-2.ensures c.field-3.ensures c.field-4.ensures c.field-5.ensures), omega (arith, field_length))
