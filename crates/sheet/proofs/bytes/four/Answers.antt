-- `four` meets its contract: the library's number of four bytes is two numbers of two.
-- Assumes nothing.
use mathlib.Core.Path.{ap}
use Prim.Native.Nat.{ℕ}
use native.Mathlib.Nat.{add_assoc}
use native.Mathlib.Omega.{arith}
use lib.ListN.{get_or}
use Rattle.sheet.specs.Bytes.{two, four}
use Rattle.sheet.proofs.bytes.four.Goals as goal

pub returns : goal.returns
unfolding two four
returns c =
    let last = ap (λ (k : ℕ). get_or c.args.s.now k 0) (add_assoc c.args.at 2 1) in omega arith
