-- `arc` meets its contract: 61, then 63, then the series, of which no step is refused.
-- Assumes nothing.
use mathlib.Core.Path.{sym, ap, ◌∙◌}
use native.Mathlib.Omega.{arith}
use Rattle.pairs.specs.Figures.{given}
use Rattle.pairs.proofs.Terms.{arc_given}
use Rattle.pairs.proofs.Turns.{arc_alternating}
use Rattle.pairs.proofs.arc.arc.Goals as goal

pub returns : goal.returns
returns c =
    ap given (c.alternating.ensures ∙ arc_alternating c.args.t _ _ c.of.ensures.0 c.of.ensures.1) ∙ sym (arc_given c.args.t (omega arith))
