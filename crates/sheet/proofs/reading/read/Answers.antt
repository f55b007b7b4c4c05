-- `read` meets its contract: the fault of the first section that has one, or what follows the three.
-- Assumes nothing.
use mathlib.Core.Path.{sym, ◌∙◌}
use Rattle.std.proofs.lemmas.Result.{err_from_is_err_and}
use Rattle.sheet.proofs.Sections.{fuels_refused, pools_refused, targets_refused, fuels_are, pools_are, targets_are, targets_passed}
use Rattle.sheet.proofs.reading.read.Goals as goal

pub returns-in_err-fuels : goal.returns-in_err-fuels
returns-in_err-fuels c =
    let r = c.from_residual in
    let p = err_from_is_err_and r.result r.ensures.1 in
    rw (p.1, p.2) (fuels_refused c.args.sheet.now _ (sym c.in_err-fuels.ensures.is))

pub returns-in_err-pools : goal.returns-in_err-pools
returns-in_err-pools c =
    let r = c.from_residual-in_err-pools in
    let p = err_from_is_err_and r.result r.ensures.1 in
    let f = c.in_ok-fuels.ensures in
    rw (p.1, p.2) (pools_refused c.args.sheet.now _ (sym f.is) f.holds _ (sym c.in_err-pools.ensures.is))

pub returns-in_err-targets : goal.returns-in_err-targets
returns-in_err-targets c =
    let r = c.from_residual-in_err-targets in
    let q = err_from_is_err_and r.result r.ensures.1 in
    let f = c.in_ok-fuels.ensures in
    let p = c.in_ok-pools.ensures in
    rw (q.1, q.2) (targets_refused c.args.sheet.now _ (sym f.is) f.holds _ (sym p.is) p.holds _ (sym c.in_err-targets.ensures.is))

pub after_sections-requires : goal.after_sections-requires
after_sections-requires c =
    let s = c.args.sheet.now in
    let f = c.in_ok-fuels.ensures in
    let p = c.in_ok-pools.ensures in
    let t = c.in_ok-targets.ensures in
    (fuels_are s _ (sym f.is) f.holds, pools_are s _ (sym f.is) f.holds _ (sym p.is) p.holds, targets_are s _ (sym f.is) f.holds _ (sym p.is) p.holds _ (sym t.is) t.holds, t.holds.inside)

pub returns : goal.returns
returns c =
    let f = c.in_ok-fuels.ensures in
    let p = c.in_ok-pools.ensures in
    let t = c.in_ok-targets.ensures in
    c.after_sections.ensures ∙ targets_passed c.args.sheet.now _ (sym f.is) f.holds _ (sym p.is) p.holds _ (sym t.is) t.holds
