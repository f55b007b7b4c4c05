-- Request 4: the 64-bit floats of the host, in the kit's account of IEEE 754 (lib.Ieee), and the value of one as a fraction.
use Rattle.std.specs.Prelude.{ℕ, ◌*◌, ◌≡◌, Bool, false, not, pos, Float}
use Rattle.std.specs.Float.{nan, inf, fin, binary64}
use Rattle.std.specs.Float.Ieee.{up, down, of_int, add, div}

-- The float of a whole number.
unfoldable pub float : ℕ → Float
float n = of_int binary64 (pos n)

-- "the middle, the float sum of the two divided by 2"
unfoldable pub middle : Float → Float → Float
middle low high = div binary64 (add binary64 low high) (float 2)

-- A float that is neither a NaN nor an infinity is `fin s m e`, the number m·2^e, below 0 where s is true; 2^e is the fraction
-- up e over down e. It has the value n over d where it has no sign and its fraction is that one, by their cross products. A
-- NaN, an infinity and -0 have no such value.
abbrev pub Value : Float → ℕ → ℕ → Type 0
Value nan n d = ⊥
Value (inf s) n d = ⊥
Value (fin s m e) n d = (s ≡ false) × (m * up e * d ≡ n * down e)

-- Neither a NaN nor an infinity, and no number with a sign: so no -0.
abbrev pub plain : Float → Bool
plain nan = false
plain (inf s) = false
plain (fin s m e) = not s
