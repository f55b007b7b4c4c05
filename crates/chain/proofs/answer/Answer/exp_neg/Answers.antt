-- `exp_neg` of an answer: that of its pair.
-- Assumes nothing.
use Rattle.std.proofs.Common.{rules}
use Rattle.pairs.specs.Answers.{answers}
use Rattle.pairs.specs.Series.{exp_neg}
use Rattle.pairs.proofs.Refusals.{exp_refused}
use Rattle.chain.proofs.Operators.{one_is}
use Rattle.chain.proofs.answer.Answer.exp_neg.Goals as goal

pub returns : goal.returns
returns c = one_is (exp_neg answers) exp_refused _ c.and_then-found.result _ c.self.view_is c.and_then-found.ensures (λ p k. search rules)
