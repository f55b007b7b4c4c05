-- `put_group` meets its contract: the slice of three floats is the group.
-- Assumes nothing.
use Rattle.std.proofs.Common.{◌≡◌, ◌+◌, ◌-◌, arith, drop-drop}
use Rattle.sheet.specs.Private.{pasted}
use Rattle.drawing.proofs.lent.put_group.Goals as goal

pub returns : goal.returns
unfolding pasted
returns c =
    let size : c.args.at + 3 - c.args.at ≡ 3 = omega arith in
    rw (c.copy_from_slice.ensures.after, size, drop-drop 3 c.args.at c.args.out.now)
