-- `four_signed` meets its contract: the number in four bytes, and then its sign.
-- Assumes nothing.
use mathlib.Core.Path.{◌≡◌, refl, ap, ◌∙◌}
use mathlib.Core.Bool.{Bool, true, false}
use Prim.Native.Nat.{ℕ}
use native.Mathlib.Omega.{arith}
use lib.Dec.{ltb}
use lib.IntN.{ℤ, pos, negsuc}
use mir.Syntax.{w32}
use mir.Val.{sel, to_z}
use mir.ValLaws.{to_z-of_z}
use Rattle.sheet.specs.Bytes.{signed, four_signed}
use Rattle.sheet.proofs.bytes.four_signed.Goals as goal

-- the library's reading of 32 bits
same_sign : (b : Bool) (x y z : ℤ) → y ≡ z → sel b x y ≡ elim b [ true ↦ x | false ↦ z ]
same_sign true x y z e = refl
same_sign false x y z e = e

sign_read : (n : ℕ) → to_z w32 n ≡ signed n
unfolding signed
sign_read n = same_sign (ltb n 2_147_483_648) (pos n) _ _ (ap negsuc (omega arith))

pub returns : goal.returns
unfolding four_signed
returns c =
    to_z-of_z w32 _ (record { sfits = c.cast_signed.type_inv }) ∙ c.cast_signed.ensures ∙ sign_read c.four.result ∙ ap signed c.four.ensures
