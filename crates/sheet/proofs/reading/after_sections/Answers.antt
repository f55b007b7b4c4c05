-- `after_sections` meets its contract: each answer is the first whose test holds.
-- Assumes nothing.
use mathlib.Core.Path.{sym, ◌∙◌}
use Rattle.sheet.proofs.Sections.{left_over, fuel_missing, pool_missing, accepted}
use Rattle.sheet.proofs.reading.after_sections.Goals as goal

pub returns-then-first_target-targets : goal.returns-then-first_target-targets
returns-then-first_target-targets c =
    let n = c.args.counts in
    left_over c.args.sheet.now n.fuels n.pools n.targets c.requires.0 c.requires.1 c.requires.2 c.if-first_target-targets.true

pub returns-then-has_stray : goal.returns-then-has_stray
returns-then-has_stray c =
    let n = c.args.counts in
    fuel_missing c.args.sheet.now n.fuels n.pools n.targets c.requires.0 c.requires.1 c.requires.2 c.if-first_target-targets.false
    (sym c.has_stray.ensures ∙ c.if-has_stray.true)

pub returns-then-has_stray-2 : goal.returns-then-has_stray-2
returns-then-has_stray-2 c =
    let n = c.args.counts in
    pool_missing c.args.sheet.now n.fuels n.pools n.targets c.requires.0 c.requires.1 c.requires.2 c.if-first_target-targets.false
    (sym c.has_stray.ensures ∙ c.if-has_stray.false) (sym c.has_stray-2.ensures ∙ c.if-has_stray-2.true)

pub returns : goal.returns
returns c =
    let n = c.args.counts in
    accepted c.args.sheet.now n.fuels n.pools n.targets c.requires.0 c.requires.1 c.requires.2 c.if-first_target-targets.false
    (sym c.has_stray.ensures ∙ c.if-has_stray.false) (sym c.has_stray-2.ensures ∙ c.if-has_stray-2.false)
