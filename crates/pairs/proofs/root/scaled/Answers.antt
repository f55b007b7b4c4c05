-- `scaled` meets its contract: the shift cuts nothing off, and one of the two upper bits is set.
-- Assumes nothing.
use Prim.Native.Nat.{ℕ, ◌/◌, ◌%◌, ◌^◌, ◌≤◌, ◌<◌}
use mathlib.Core.Path.{◌≡◌}
use native.Mathlib.Omega.{arith}
use lib.Count.{count_leading_zeros}
use Rattle.pairs.proofs.division.Digits.{leading}
use Rattle.pairs.proofs.root.Scaling.{evened}
use Rattle.pairs.proofs.root.scaled.Goals as goal

uncut : (x : ℕ) → x < 2 ^ 128 → 2 ^ 126 ≤ x → (x % 2 ^ 128 / 2 ^ 64 ≡ x / 2 ^ 64) × (2 ^ 62 ≤ x % 2 ^ 128 / 2 ^ 64)
uncut x h k = omega arith

pub returns : goal.returns
returns c = let e = evened c.args.n (count_leading_zeros 128 c.args.n) (leading 127 c.args.n c.requires c.ranges.n.fits) in uncut _ e.whole e.least
