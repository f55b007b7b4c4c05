-- `group_in` meets its contract: the ten bytes of answer i stand from its place on.
-- Assumes nothing.
use Rattle.std.proofs.Common.{◌≡◌, ℕ, ◌+◌, ◌-◌, List, take, drop, arith, ap, ◌∙◌}
use Rattle.std.proofs.lemmas.List.{take-take}
use Rattle.sheet.proofs.Own.{cut}
use Rattle.sheet.specs.Layout.{answer_size}
use Rattle.drawing.specs.Figures.{group_of}
use Rattle.drawing.proofs.Bytes.{answer_read}
use Rattle.drawing.proofs.answers.group_in.Goals as goal

ten : (s : List ℕ) (at : ℕ) → cut s at answer_size ≡ cut (take (at + 10 - at) (drop at s)) 0 answer_size
unfolding cut
ten s at =
    let size : at + 10 - at ≡ 10 = omega arith in
    rw (size, take-take 10 10 (drop at s) (omega arith))

pub returns : goal.returns
returns c = c.group_of.ensures ∙ ap group_of c.ends_in.ensures ∙ answer_read _ _ _ (ten _ _)
