-- `whole_root` meets its contract: the law that names a root by what passes and what does not.
-- Assumes nothing.
use mathlib.Core.Path.{sym}
use native.Mathlib.Omega.{arith}
use Rattle.pairs.proofs.Search.{root_down_is}
use Rattle.planning.proofs.distance.whole_root.Goals as goal

pub returns : goal.returns
returns c =
    sym (root_down_is c.args.n c.isqrt.result c.isqrt.ensures.square_le (omega (arith, c.isqrt.ensures.next_square_gt)))
