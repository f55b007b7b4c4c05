-- `all` makes a bracket: the power of the limit is above every bound. Assumes nothing.
use Rattle.pairs.proofs.fifth_root.Powers.{all_numbers}
use Rattle.pairs.proofs.fifth_root.Bracket.all.Goals as goal

pub invariant_of-result : goal.invariant_of-result
invariant_of-result c = record { brackets = all_numbers _ _ c.requires }
