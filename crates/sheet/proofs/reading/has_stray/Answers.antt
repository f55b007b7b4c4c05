-- `has_stray` meets its contract: the test of `any` is that of `stray`, over the same numbers.
-- Assumes nothing.
use mathlib.Core.Path.{◌∙◌}
use Prim.Native.Nat.{◌+◌, ◌*◌}
use native.Mathlib.Omega.{arith}
use lib.Dec.{leb}
use Rattle.std.proofs.Common.{rules, tests}
use Rattle.std.proofs.lemmas.Iterator.{YieldsList-from_range}
use Rattle.std.proofs.lemmas.Iterator.Search.{any_from_yields_List}
use Rattle.sheet.specs.Bytes.{two}
use Rattle.sheet.specs.Private.{stray}
use Rattle.sheet.proofs.Sections.{any_below}
use Rattle.sheet.proofs.reading.has_stray.Goals as goal

pub returns : goal.returns
unfolding stray
returns c =
    any_from_yields_List (λ i. leb c.args.limit (two c.args.sheet.now (c.args.first + c.args.size * i))) _ _ _ c.any.ensures.ran
    (YieldsList-from_range 0 c.args.count c.args.count (cc) (omega arith)) (λ x b q k. search (rules, tests))
    ∙ any_below _ c.args.count
