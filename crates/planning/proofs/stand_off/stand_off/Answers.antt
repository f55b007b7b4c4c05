-- `stand_off` meets its contract: each case of the flux at 2,000 decimetres has its outcome.
-- Assumes nothing.
use mathlib.Core.Path.{sym, ◌∙◌}
use Rattle.std.proofs.lemmas.Result.{err_from_is_err_and}
use Rattle.chain.proofs.Limits.{number_above_0}
use Rattle.planning.proofs.Outcomes.{flux_first, over, kept, over_by, kept_by}
use Rattle.planning.proofs.stand_off.stand_off.Goals as goal

pub returns-in_err-farthest : goal.returns-in_err-farthest
returns-in_err-farthest c =
    let p = err_from_is_err_and c.from_residual.result c.from_residual.ensures.1 in
    rw (p.1, p.2) (sym (flux_first c.args.s c.args.limit _ (number_above_0 _) c.in_err-farthest.ensures))

pub returns-then-limit-farthest : goal.returns-then-limit-farthest
returns-then-limit-farthest c =
    sym (over c.args.s c.args.limit (over_by c.args.s c.args.limit c.in_ok-farthest.ensures c.if-limit-farthest.true))

pub nearest-requires-clause-kept : goal.nearest-requires-clause-kept
nearest-requires-clause-kept c = kept_by c.args.s c.args.limit c.in_ok-farthest.ensures c.if-limit-farthest.false

pub returns : goal.returns
returns c =
    c.nearest.ensures
    ∙ sym (kept c.args.s c.args.limit (kept_by c.args.s c.args.limit c.in_ok-farthest.ensures c.if-limit-farthest.false))
