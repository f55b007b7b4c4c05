-- Document 01, "Sheet and fill": "Bytes, most significant first." A sheet is the list of its bytes.
use Rattle.std.specs.Prelude.{ℕ, ◌+◌, ◌*◌, ◌-◌, ◌/◌, ◌%◌, true, false, List, [], ◌∷◌, get_or, ℤ, pos, negsuc, ltb}

-- The number in one, two and four bytes from a position on.
unfoldable pub one : List ℕ → ℕ → ℕ
one s at = get_or s at 0

unfoldable pub two : List ℕ → ℕ → ℕ
two s at = 256 * get_or s at 0 + get_or s (at + 1) 0

unfoldable pub four : List ℕ → ℕ → ℕ
four s at = 65_536 * two s at + two s (at + 2)

-- Request 1: "4 bytes in two's complement". From 2^31 on n stands for n - 2^32; `negsuc k` is -(k + 1).
unfoldable pub signed : ℕ → ℤ
signed n = elim (ltb n 2_147_483_648) [ true ↦ pos n | false ↦ negsuc (4_294_967_295 - n) ]

unfoldable pub four_signed : List ℕ → ℕ → ℤ
four_signed s at = signed (four s at)

-- The four bytes of a number.
unfoldable pub four_bytes : ℕ → List ℕ
four_bytes n = n / 16_777_216 % 256 ∷ n / 65_536 % 256 ∷ n / 256 % 256 ∷ n % 256 ∷ []
