-- `put_answer` meets its contract: four writes in a row are the ten bytes.
-- Assumes nothing.
use mathlib.Core.Path.{ap, ◌∙◌}
use Prim.Native.Nat.{◌+◌, ◌-◌}
use native.Mathlib.Omega.{arith}
use Rattle.sheet.specs.Bytes.{four_bytes}
use Rattle.sheet.specs.Fill.{ten_bytes}
use Rattle.sheet.specs.Private.{shown_by, pasted}
use Rattle.sheet.proofs.Pasting.{overwritten}
use Rattle.sheet.proofs.Filling.{ten_written}
use Rattle.sheet.proofs.fill.put_answer.Goals as goal

pub returns : goal.returns
unfolding four_bytes
returns c =
    let at = c.args.at in
    let e = c.from-e.result in
    ten_written c.args.out.now _ _ at (shown_by e) c.requires
    (overwritten _ (four_bytes e.low) _ (at + 1) (at + 5 - (at + 1)) (c.copy_from_slice.ensures.after ∙ c.to_be_bytes.ensures) (omega arith))
    (overwritten _ (four_bytes e.high) _ (at + 5) (at + 9 - (at + 5)) (c.copy_from_slice-2.ensures.after ∙ c.to_be_bytes-2.ensures) (omega arith))
    ∙ ap (λ a. pasted c.args.out.now at (ten_bytes a)) c.from-e.ensures
