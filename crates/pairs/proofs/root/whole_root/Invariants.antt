-- `whole_root` meets its contract. The loop's invariant: the root is at most s, and the quotient of the next step fits. The measure is s.
use Rattle.pairs.proofs.root.Newton.{Holds}
use Rattle.pairs.proofs.root.whole_root.Given as goal

abbrev pub invariant-loop-s : goal.invariant-loop-s
invariant-loop-s l = Holds l.n l.s

abbrev pub decreases-loop-s : goal.decreases-loop-s
decreases-loop-s l = l.s
