-- `fifth_root_up_of` meets its contract: the first number whose power is above b·U - 1 is the root.
-- Assumes nothing.
use native.Mathlib.Omega.{arith}
use Rattle.pairs.proofs.fifth_root.Powers.{named_up}
use Rattle.pairs.proofs.fifth_root.fifth_root_up_of.Goals as goal

pub returns : goal.returns
returns c = named_up _ _ _ (omega arith) c.first_above.ensures
