-- A sheet has at most 512 groups, and none of them has a NaN.
use Rattle.std.proofs.Common.{◌≡◌, true, ℕ, ◌<◌, ◌≤◌, List, get_or, take, length, arith, ap, ◌∙◌}
use Rattle.std.specs.Prelude.{Ok}
use Rattle.std.proofs.lemmas.List.{get_or-take, length-take}
use Rattle.drawing.specs.declared.groups.Groups as value
use Rattle.drawing.specs.Groups.{Groups, groups_of, groups_shown}
use Rattle.drawing.specs.Claims.{plain_group}
use Rattle.drawing.proofs.Claims.{claims}
use Rattle.groups.proofs.print_groups.Goals as goal

few_groups : (s : List ℕ) (gs : value.Groups) → groups_shown (Ok gs) ≡ groups_of s → gs.count ≤ 512
few_groups s gs e = omega (arith, ap (λ (g : Groups). g.count) e, claims.few s)

each_plain : (s : List ℕ) (gs : value.Groups) → groups_shown (Ok gs) ≡ groups_of s → (i : ℕ) → i < length (take gs.count gs.groups)
    → (other : _) → plain_group (get_or (take gs.count gs.groups) i other) ≡ true
each_plain s gs e i h other =
    let inside : i < gs.count = omega (arith, h, length-take gs.count gs.groups) in
    rw (get_or-take gs.count gs.groups i other inside)
    (ap (λ (g : Groups). plain_group (get_or g.groups i other)) e ∙ claims.groups_plain s i (omega (arith, inside, few_groups s gs e)) other)

pub shared_ref_as_front-g-items : goal.shared_ref_as_front-g-items
shared_ref_as_front-g-items g c = omega (arith, few_groups _ _ c.in-Ok.ensures)

pub print_group-requires : goal.print_group-requires
print_group-requires g c = each_plain _ _ c.in-Ok.ensures _ c.loop-g-test.true _
