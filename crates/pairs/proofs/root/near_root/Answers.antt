-- `near_root` meets its contract: a starting number is between 2^12 and 2^13, and the two steps keep the bits of the root.
-- Assumes nothing.
use native.Mathlib.Omega.{arith}
use Rattle.pairs.proofs.root.Scaling.{steps}
use Rattle.pairs.proofs.root.near_root.Goals as goal

pub overflow_mul-first : goal.overflow_mul-first
overflow_mul-first c = let s = steps _ _ c.requires c.ranges.word.fits c.starting_number-first.ensures in omega arith

pub nonzero_div-second : goal.nonzero_div-second
nonzero_div-second c = let s = steps _ _ c.requires c.ranges.word.fits c.starting_number-first.ensures in omega arith
