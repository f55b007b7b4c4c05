-- `fill` meets its contract: the sheet's fault, too little room, or the answers of all targets.
-- Assumes nothing.
use mathlib.Core.Path.{ap, ◌∙◌}
use Prim.Native.Nat.{ℕ}
use Rattle.std.proofs.lemmas.Result.{err_from_is_err_and}
use Rattle.sheet.specs.Layout.{answer_size}
use Rattle.sheet.specs.Lent.{Lent}
use Rattle.sheet.specs.Fill.{answers}
use Rattle.sheet.proofs.Lending.{no_room}
use Rattle.sheet.proofs.Filling.{fill_refused, fill_accepted, written}
use Rattle.sheet.proofs.fill.fill.Goals as goal

pub returns-in_err-sheet : goal.returns-in_err-sheet
returns-in_err-sheet c =
    let p = err_from_is_err_and c.from_residual.result c.from_residual.ensures.1 in
    let e = fill_refused c.args.sheet.now c.args.out.now _ c.in_err-sheet.ensures in
    rw (p.1, p.2) (ap (λ (f : Lent ℕ). f.number) e, ap (λ (f : Lent ℕ). f.elements) e)

pub returns-then-out-sheet : goal.returns-then-out-sheet
returns-then-out-sheet c =
    let n = c.in_ok-sheet.sheet.counts in
    let e = no_room answer_size (answers c.args.sheet.now) n.targets c.args.out.now c.if-out-sheet.true ∙ fill_accepted c.args.sheet.now c.args.out.now n c.in_ok-sheet.ensures.0 in
    (ap (λ (f : Lent ℕ). f.number) e, ap (λ (f : Lent ℕ). f.elements) e)

pub returns : goal.returns
returns c =
    let k = c.in_ok-sheet.ensures in
    let n = c.in_ok-sheet.sheet.counts in
    let e = written c.args.sheet.now c.args.out.now _ n.targets c.if-out-sheet.false (rw k.1 at c.put_answers.ensures) ∙ fill_accepted c.args.sheet.now c.args.out.now n k.0 in
    (ap (λ (f : Lent ℕ). f.number) e, ap (λ (f : Lent ℕ). f.elements) e)
