-- `report` meets its contract: too little room, or the text.
-- Assumes nothing.
use mathlib.Core.Path.{sym, ap}
use native.Mathlib.Omega.{arith}
use Rattle.sheet.specs.Report.{Reported}
use Rattle.sheet.proofs.Printing.{report_fits, too_short, printed_whole}
use Rattle.sheet.proofs.report.report.Goals as goal

pub returns-then-out-lt-ROOM : goal.returns-then-out-lt-ROOM
returns-then-out-lt-ROOM c =
    let e = too_short c.args.sheet.now c.args.out.now c.if-out-lt-ROOM.true in
    (ap (λ (f : Reported). f.count) e, ap (λ (f : Reported). f.bytes) e, omega arith)

pub returns : goal.returns
returns c =
    let p = c.put_report.ensures in
    let e = printed_whole c.args.sheet.now c.args.out.now _ _ c.if-out-lt-ROOM.false p.bytes p.after in
    let count = ap (λ (f : Reported). f.count) e in
    let bytes = ap (λ (f : Reported). f.bytes) e in
    let same = sym p.same in
    (count, grind arith, omega (arith, count, report_fits c.args.sheet.now c.args.out.now _ bytes p.kept))
