-- `sub` of two answers: the difference of their pairs.
-- Assumes nothing.
use mathlib.Core.Path.{refl}
use Rattle.pairs.specs.Answers as A
use Rattle.chain.proofs.Operators.{two_is}
use Rattle.chain.proofs.answer.AnswerSub.sub.Goals as goal

pub returns : goal.returns
unfolding A.difference
returns c = two_is A.difference (λ n y. refl) (λ p n. refl) _ _ c.on_both-found.result _ _ c.self.view_is c.b.view_is c.on_both-found.ensures (λ p q k. k.2)
