-- `fifth_root` of an answer: that of its pair.
-- Assumes nothing.
use mathlib.Core.Path.{refl}
use Rattle.std.proofs.Common.{rules}
use Rattle.pairs.specs.Answers as A
use Rattle.chain.proofs.Operators.{one_is}
use Rattle.chain.proofs.answer.Answer.fifth_root.Goals as goal

pub returns : goal.returns
unfolding A.fifth_root
returns c = one_is A.fifth_root (λ n. refl) _ c.and_then-found.result _ c.self.view_is c.and_then-found.ensures (λ p k. search rules)
