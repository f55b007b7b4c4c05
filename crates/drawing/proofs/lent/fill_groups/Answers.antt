-- `fill_groups` meets its contract: too little room, or the groups of all targets, of which a refused sheet has none.
-- Assumes nothing.
use mathlib.Core.Path.{◌≡◌, refl, sym, ap, ◌∙◌}
use mathlib.Core.List.{List, ◌++◌}
use Prim.Native.Nat.{ℕ, ◌*◌, ◌≤◌, ◌<◌}
use lib.ListN.{length, drop}
use lib.Ieee.{Float}
use native.Mathlib.Omega.{arith}
use Rattle.std.proofs.lemmas.Result.{err_from_is_err_and}
use Rattle.sheet.specs.declared.reading.Fault.{Fault}
use Rattle.sheet.specs.declared.reading.Fault.TheVariants.{CutShort, TooMany, LeftOver, NoFuel, NoPool}
use Rattle.sheet.specs.Reading.{Outcome, refused, number_of, reading_of}
use Rattle.sheet.specs.Lent.{Lent, untouched, lent}
use Rattle.sheet.specs.Private.{pasted}
use Rattle.sheet.proofs.Sections.{refused_none, few_targets}
use Rattle.sheet.proofs.Lending.{short, ample}
use Rattle.drawing.specs.declared.figures.Group.{Group}
use Rattle.drawing.specs.Groups.{group_at, listed}
use Rattle.drawing.specs.Lent.{group_size, laid_out, fill_groups_of}
use Rattle.drawing.proofs.Bytes.{groups_read}
use Rattle.drawing.proofs.Listing.{all_laid_out}
use Rattle.drawing.proofs.lent.fill_groups.Goals as goal

-- the two cases of the definition
too_short : (s : List ℕ) (out : List Float) → length out < group_size * (reading_of s).targets → untouched 31 out ≡ fill_groups_of s out
unfolding fill_groups_of
too_short s out h = short group_size (λ n. laid_out (listed (group_at s) n)) (reading_of s) (refused_none s) out h

roomy :
    (s : List ℕ) (out : List Float) → group_size * (reading_of s).targets ≤ length out
    → record { number = (reading_of s).state; elements = laid_out (listed (group_at s) (reading_of s).targets) ++ drop (group_size * (reading_of s).targets) out } ≡ fill_groups_of s out
unfolding fill_groups_of listed laid_out
roomy s out h = ample group_size (λ n. laid_out (listed (group_at s) n)) (reading_of s) (refused_none s) refl out h

refused_lent : {A : Type 0} (why : Fault) (size : ℕ) (elements : ℕ → List A) (out : List A) → lent (refused (number_of why)) size elements out ≡ untouched (number_of why) out
refused_lent CutShort size elements out = refl
refused_lent TooMany size elements out = refl
refused_lent LeftOver size elements out = refl
refused_lent NoFuel size elements out = refl
refused_lent NoPool size elements out = refl

pub returns-in_err-count : goal.returns-in_err-count
unfolding fill_groups_of
returns-in_err-count c =
    let p = err_from_is_err_and c.from_residual.result c.from_residual.ensures.1 in
    let laid = refused_lent c.in_err-count.field-0.0 group_size (λ n. laid_out (listed (group_at c.args.sheet.now) n)) c.args.out.now in
    rw (p.1, p.2, ← c.in_err-count.ensures) (ap (λ (x : Lent Float). x.number) (sym laid), ap (λ (x : Lent Float). x.elements) (sym laid))

pub overflow_mul-count : goal.overflow_mul-count
overflow_mul-count c = record { fits = omega (arith, ap (λ (o : Outcome). o.targets) c.in_ok-count.ensures, few_targets c.args.sheet.now) }

pub returns-then-out-count : goal.returns-then-out-count
returns-then-out-count c =
    let n = ap (λ (o : Outcome). o.targets) c.in_ok-count.ensures in
    let e = too_short c.args.sheet.now c.args.out.now (omega (arith, n, c.if-out-count.true)) in
    (ap (λ (x : Lent Float). x.number) e, ap (λ (x : Lent Float). x.elements) e)

pub put_groups-requires : goal.put_groups-requires
put_groups-requires c =
    let n = ap (λ (o : Outcome). o.targets) c.in_ok-count.ensures in
    (omega (arith, n, few_targets c.args.sheet.now), omega (arith, c.fill.auto.out), omega (arith, c.if-out-count.false))

pub returns : goal.returns
returns c =
    let s = c.args.sheet.now in
    let read = c.in_ok-count.ensures in
    let n = ap (λ (o : Outcome). o.targets) read in
    let e = roomy s c.args.out.now (omega (arith, n, c.if-out-count.false)) in
    let floats =
    c.put_groups.ensures
    ∙ ap (λ (gs : List Group). pasted c.args.out.now 0 (laid_out gs)) (groups_read s _ _ c.fill.ensures.1 (sym n))
    ∙ all_laid_out (group_at s) c.args.out.now (reading_of s).targets in
    (ap (λ (o : Outcome). o.state) read ∙ ap (λ (x : Lent Float). x.number) e, floats ∙ ap (λ (x : Lent Float). x.elements) e)
