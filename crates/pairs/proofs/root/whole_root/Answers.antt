-- `whole_root` meets its contract: the root of 0 is 0. Assumes nothing.
use mathlib.Core.Path.{◌≡◌, refl}
use Prim.Native.Nat.{ℕ, zero}
use native.Mathlib.Omega.{arith}
use Rattle.pairs.specs.Rounded.{root_down}
use Rattle.pairs.specs.Search.{greatest}
use Rattle.pairs.proofs.root.whole_root.Goals as goal

none : (n : ℕ) → n ≡ zero → 0 ≡ root_down n
unfolding root_down greatest
none n e = rw e refl

pub returns-then-n-eq0 : goal.returns-then-n-eq0
returns-then-n-eq0 c = none _ (omega arith)
