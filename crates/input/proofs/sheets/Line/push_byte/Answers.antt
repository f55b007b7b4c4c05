-- Each kind of byte does to the line what it does to the lines.
use Rattle.std.proofs.Common.{arith, sym, ◌∙◌}
use Rattle.input.proofs.Lines.{after_other, after_first, after_second, pushed}
use Rattle.input.proofs.sheets.Line.push_byte.Goals as goal

pub returns-in_default : goal.returns-in_default
returns-in_default c = λ ended. sym (after_other _ _ c.requires (omega (arith, c.in_default.ensures.value)))

pub returns-in-None : goal.returns-in-None
returns-in-None c = λ ended. sym (after_first _ _ _ c.requires c.in-Some.ensures.value (sym c.take.ensures.value ∙ c.in-None.is))

pub returns-in-Some-take : goal.returns-in-Some-take
returns-in-Some-take c = λ ended. sym (after_second _ _ _ _ _ _ c.requires c.in-Some.ensures.value (sym c.take.ensures.value ∙ c.in-Some-take.is) (pushed c.try_push.result _ _ _ c.try_push.ensures.variant.0 c.try_push.ensures.ok c.try_push.ensures.err c.try_push.ensures.full) c.take.ensures.after)
