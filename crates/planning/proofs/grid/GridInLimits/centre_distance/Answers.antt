-- `centre_distance` meets its contract: the two offsets, their squares, and the root.
-- Assumes nothing.
use mathlib.Core.Path.{ap₂, ◌∙◌}
use Prim.Native.Nat.{ℕ, ◌+◌, ◌*◌}
use mir.Syntax.{w32}
use mir.Val.{SFits}
use mir.ValLaws.{to_z-of_z}
use Rattle.std.proofs.Common.{rules}
use Rattle.pairs.specs.Rounded.{root_down}
use Rattle.planning.specs.Grid.{centre_distance}
use Rattle.planning.proofs.grid.GridInLimits.centre_distance.Goals as goal

pub returns : goal.returns
unfolding centre_distance
returns c =
    let G = c.args.self.grid in
    let east_fits : SFits w32 G.east = search rules in
    let north_fits : SFits w32 G.north = search rules in
    let east = simp to_z-of_z at c.offset_after.ensures.distance in
    let north = simp to_z-of_z at c.offset_after-2.ensures.distance in
    c.whole_root.ensures
    ∙ ap₂ (λ (a b : ℕ). root_down (a * a + b * b)) (c.from-eastward.ensures ∙ east) (c.from-northward.ensures ∙ north)
