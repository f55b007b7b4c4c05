-- `by_series` meets its contract: the loop holds what is left of the squares.
use mathlib.Core.Path.{◌≡◌}
use Prim.Native.Nat.{◌-◌, ◌≤◌}
use Rattle.pairs.specs.Figures.{given}
use Rattle.pairs.specs.Answers.{answers}
use Rattle.pairs.specs.Series.{squared}
use Rattle.pairs.proofs.exp_neg.by_series.Given as goal

abbrev pub invariant-loop : goal.invariant-loop
invariant-loop l = (l.counter ≤ 8) × (squared answers (8 - l.counter) (given l.power) ≡ squared answers 8 (given l.initial.power))

abbrev pub decreases-loop : goal.decreases-loop
decreases-loop l = 8 - l.counter
