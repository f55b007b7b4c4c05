-- `groups_of` meets its contract: the fill has room for every target, and its answers have the groups; or the fault.
-- Assumes nothing.
use mathlib.Core.Path.{◌≡◌, sym, ap, ◌∙◌}
use mathlib.Core.List.{List, []}
use Prim.Native.Nat.{ℕ}
use native.Mathlib.Omega.{arith}
use Rattle.std.proofs.lemmas.Result.{err_from_is_err_and}
use Rattle.sheet.specs.declared.reading.Fault.{Fault}
use Rattle.sheet.specs.Reading.{Outcome, number_of, refused, reading_of}
use Rattle.sheet.proofs.Sections.{few_targets}
use Rattle.drawing.specs.Groups.{padded, listed, groups_of}
use Rattle.drawing.proofs.Bytes.{groups_read}
use Rattle.drawing.proofs.groups.groups_of.Goals as goal

none_read : (s : List ℕ) (why : Fault) → refused (number_of why) ≡ reading_of s → record { number = number_of why; count = 0; groups = padded [] } ≡ groups_of s
unfolding groups_of listed
none_read s why e = rw (← e)

pub returns-in_err-count : goal.returns-in_err-count
returns-in_err-count c =
    let p = err_from_is_err_and c.from_residual.result c.from_residual.ensures.1 in
    rw (p.1, p.2) (none_read _ _ c.in_err-count.ensures)

pub groups_in-requires : goal.groups_in-requires
groups_in-requires c =
    (omega (arith, ap (λ (o : Outcome). o.targets) c.in_ok-count.ensures, few_targets c.args.sheet.now), omega (arith, c.fill.auto.out))

pub returns : goal.returns
unfolding groups_of
returns c =
    let s = c.args.sheet.now in
    let e = sym c.in_ok-count.ensures in
    let count = ap (λ (o : Outcome). o.targets) e in
    let groups = c.groups_in.ensures ∙ ap padded (groups_read s _ _ c.fill.ensures.1 count) in
    λ i. record { number = (c.in_ok-count.ensures i).state; count = (c.in_ok-count.ensures i).targets; groups = groups i }
