-- `power_61_hundredths`: the loop holds the factors so far.
use mathlib.Core.Path.{◌≡◌}
use Rattle.pairs.specs.Answers as A
use Rattle.chain.specs.Chain as chain
use Rattle.chain.proofs.smoky.power_61_hundredths.Given as goal

abbrev pub invariant-loop : goal.invariant-loop
invariant-loop l = l.p ≡ chain.equal_factors A.answers l.b l.counter
