-- Sheets in hexadecimal, one to a line: which sheets the bytes of an input are.
use Rattle.std.specs.Prelude.{ℕ, ◌+◌, ◌*◌, cond, eqb, ltb, List, [], ◌∷◌, ◌++◌, take, None, Some}
use Rattle.std.specs.Char.{digit_value}
use Rattle.std.specs.List.{fold}
use Rattle.std.specs.declared.option.Option.{Option}

-- The bytes of a sheet that are kept: one more than the longest accepted sheet has.
abbrev pub room : ℕ
room = 7_495

-- What the bytes so far are: the sheets that have ended, in their order; the bytes of the next one; and the first digit of its next byte.
pub record Lines : Type 0 where
  pub ended : List (List ℕ)
  pub sheet : List ℕ
  pub half : Option ℕ

-- Two digits are a byte. Bytes past the room are dropped.
abbrev pub with_digit : List (List ℕ) → List ℕ → Option ℕ → ℕ → Lines
with_digit ended sheet None digit = record { ended = ended; sheet = sheet; half = Some digit }
with_digit ended sheet (Some first) digit =
    record { ended = ended; sheet = take room (sheet ++ (16 * first + digit) ∷ []); half = None }

-- A line feed ends a sheet and drops a single digit; any other byte that is no digit is passed over.
unfoldable pub with_byte : Lines → ℕ → Lines
with_byte l b =
    cond (eqb b 10) (record { ended = l.ended ++ l.sheet ∷ []; sheet = []; half = None })
    (cond (ltb (digit_value b) 16) (with_digit l.ended l.sheet l.half (digit_value b)) l)

-- Nothing is read.
abbrev pub no_lines : Lines
no_lines = record { ended = []; sheet = []; half = None }

-- The sheets of an input, in their order. A last line with no line feed is none.
abbrev pub sheets_of : List ℕ → List (List ℕ)
sheets_of bs = (fold with_byte no_lines bs).ended
