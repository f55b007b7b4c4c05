-- `div` by a whole number: the pair over the number.
-- Assumes nothing.
use mathlib.Core.Path.{refl}
use Rattle.std.proofs.Common.{rules}
use Rattle.pairs.specs.Figures.{Figures}
use Rattle.pairs.specs.Answers as A
use Rattle.chain.proofs.Operators.{one_is}
use Rattle.chain.proofs.answer.AnswerDivU64.div.Goals as goal

pub returns : goal.returns
unfolding A.over
returns c = one_is (λ (x : Figures). A.over x c.args.n) (λ n. refl) _ c.and_then-found.result _ c.self.view_is c.and_then-found.ensures (λ p k. search rules)
