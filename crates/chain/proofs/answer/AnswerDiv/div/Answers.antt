-- `div` of two answers: the quotient of their pairs.
-- Assumes nothing.
use mathlib.Core.Path.{refl}
use Rattle.pairs.specs.Answers as A
use Rattle.chain.proofs.Operators.{two_is}
use Rattle.chain.proofs.answer.AnswerDiv.div.Goals as goal

pub returns : goal.returns
unfolding A.quotient
returns c = two_is A.quotient (λ n y. refl) (λ p n. refl) _ _ c.on_both-found.result _ _ c.self.view_is c.b.view_is c.on_both-found.ensures (λ p q k. k.2)
