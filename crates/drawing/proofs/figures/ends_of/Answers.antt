-- `ends_of` meets its contract: each case of the flux has its own ends.
-- Assumes nothing.
use mathlib.Core.Path.{sym, ap, ◌∙◌}
use native.Mathlib.Omega.{arith}
use Rattle.chain.specs.Flux as flux
use Rattle.chain.specs.Flux.{shown, number_of}
use Rattle.chain.proofs.Limits.{number_above_0}
use Rattle.drawing.specs.declared.figures.Ends.TheVariants.{Refused}
use Rattle.drawing.specs.Floats.{float}
use Rattle.drawing.specs.Figures.{ends, ends_of}
use Rattle.drawing.proofs.Ends.{refused}
use Rattle.drawing.proofs.figures.ends_of.Goals as goal

pub returns-in-Ok : goal.returns-in-Ok
unfolding ends_of float
returns-in-Ok c =
    ap ends (sym (ap shown c.in-Ok.is) ∙ c.flux.ensures)

pub returns-in-Err : goal.returns-in-Err
unfolding ends_of
returns-in-Err c =
    let why = c.in-Err.why in
    ap Refused c.from.ensures
    ∙ sym (refused (flux.refused (number_of why)) (λ e. omega (arith, number_above_0 why, e)))
    ∙ ap ends (sym (ap shown c.in-Err.is) ∙ c.flux.ensures)
