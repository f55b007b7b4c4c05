-- `scale_of` meets its contract: the highest set bit of d, shifted left by the count of its leading zeros, is bit 63.
-- Assumes nothing.
use native.Mathlib.Nat.{one-mul}
use native.Mathlib.Omega.{arith}
use lib.Pow.{shl_exact}
use lib.Count.{count_leading_zeros}
use Rattle.pairs.proofs.division.Digits.{leading}
use Rattle.pairs.proofs.division.scale_of.Goals as goal

pub returns : goal.returns
returns c = let l = leading 63 c.args.d c.requires c.ranges.d.fits in
    rw (shl_exact {a = 1} 1 (count_leading_zeros 64 c.args.d) 64 (omega arith) (omega arith), one-mul) (l.from, l.to)
