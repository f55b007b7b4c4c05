-- `groups_in` meets its contract: the groups of the answers passed stand at the front, and three zeros behind them.
-- Assumes nothing.
use Rattle.std.proofs.Common.{◌≡◌, ℕ, arith, ap, ◌∙◌}
use lib.Ieee.{of_bits, of_int}
use lib.ListN.{replicate, length-set, length-replicate}
use Rattle.sheet.specs.Layout.{most_targets}
use Rattle.sheet.specs.Private.{pasted}
use Rattle.drawing.specs.Floats.{float}
use Rattle.drawing.specs.Figures.{three_zeros}
use Rattle.drawing.specs.Groups.{listed}
use Rattle.drawing.specs.Private.{group_in}
use Rattle.drawing.proofs.Listing.{one_stored, all_stored}
use Rattle.drawing.proofs.groups.groups_in.Goals as goal

pub loop-i-init : goal.loop-i-init
unfolding pasted listed of_bits float of_int
loop-i-init c =
    let e = c.default-groups.ensures in
    let zeros : c.default-groups.result ≡ three_zeros = λ i. record { low = e.0 i; middle = e.1.0 i; high = e.1.1 i } in
    (length-replicate most_targets c.default-groups.result, ap (replicate most_targets) zeros)

pub loop-i-preserved : goal.loop-i-preserved
loop-i-preserved c =
    let l = c.loop-i in
    let room = length-replicate most_targets three_zeros in
    (simp length-set l.invariant.0, one_stored (group_in c.args.answers.now) (replicate most_targets three_zeros) l.groups l.i _ (omega (arith, room, c.requires.0, c.loop-i-test.true)) l.invariant.1 c.group_in.ensures)

pub returns : goal.returns
returns c =
    let l = c.loop-i in
    let all : l.i ≡ c.args.count = omega (arith, l.auto.i-end, c.loop-i-test.false) in
    l.invariant.1
    ∙ ap (λ (n : ℕ). pasted (replicate most_targets three_zeros) 0 (listed (group_in c.args.answers.now) n)) all
    ∙ all_stored (listed (group_in c.args.answers.now) c.args.count)
