-- The test of 42 as facts: a grid inside its limits is one to which 42 does not apply. By the outcomes of its tests. Assumes nothing.
use mathlib.Core.Path.{◌≡◌, refl}
use mathlib.Core.Bool.{Bool, true, false}
use native.Mathlib.Omega.{arith}
use Rattle.std.proofs.lemmas.Bool.Decides.{nat_tests}
use Rattle.planning.specs.declared.grid.Grid.{Grid}
use Rattle.planning.specs.Grid.{grid_outside}
use Rattle.planning.specs.PlaceClaims.{InLimits}

pub in_limits : (G : Grid) → grid_outside G ≡ false → InLimits G
unfolding grid_outside
in_limits G h = grind (arith, nat_tests)

pub not_outside : (G : Grid) → InLimits G → grid_outside G ≡ false
unfolding grid_outside
not_outside G h = grind (arith, nat_tests)

pub is_outside : (G : Grid) → (InLimits G → ⊥) → grid_outside G ≡ true
is_outside G n = either (grid_outside G) refl
  where
    either : (b : Bool) → grid_outside G ≡ b → grid_outside G ≡ true
    either true e = e
    either false e = absurd (n (in_limits G e))
