-- `put_report` meets its contract: the text of an accepted sheet, or that of a refused one.
-- Assumes nothing.
use Rattle.sheet.proofs.Printing.{text_refused, text_accepted}
use Rattle.sheet.proofs.report.put_report.Goals as goal

pub returns-in-Ok : goal.returns-in-Ok
returns-in-Ok c =
    let k = c.in-Ok.ensures in
    rw (← text_accepted c.args.sheet.now c.in-Ok.accepted.counts k.0) (rw k.1 at c.put_figures.ensures)

pub returns-in-Err : goal.returns-in-Err
returns-in-Err c = rw (← text_refused c.args.sheet.now c.in-Err.why c.in-Err.ensures) c.put_refusal.ensures
