-- `two` meets its contract: the library's number of two bytes.
-- Assumes nothing.
use native.Mathlib.Omega.{arith}
use Rattle.sheet.specs.Bytes.{two}
use Rattle.sheet.proofs.bytes.two.Goals as goal

pub returns : goal.returns
unfolding two
returns c = omega arith
