-- Document 01, "Fill" under "Turned back": what a fill returns and leaves in the lent slice, on all bytes and all slices.
use Rattle.std.specs.Prelude.{ℕ, zero, suc, List, [], ◌∷◌, ◌++◌, Result, Ok, Err}
use Rattle.chain.specs.Flux.{Shown}
use Rattle.sheet.specs.Layout.{answer_size}
use Rattle.sheet.specs.Bytes.{four_bytes}
use Rattle.sheet.specs.declared.fill.NotFilled.{NotFilled}
use Rattle.sheet.specs.declared.fill.NotFilled.TheVariants as refusal
use Rattle.sheet.specs.Reading.{number_of, reading_of}
use Rattle.sheet.specs.Target.{shown_of}
use Rattle.sheet.specs.Lent.{Lent, lent}

-- "10 bytes per target: state (0 or the refusal number), low in 4, high in 4, note."
unfoldable pub ten_bytes : Shown → List ℕ
ten_bytes a = (a.state ∷ []) ++ four_bytes a.low ++ four_bytes a.high ++ (a.note ∷ [])

-- The bytes of the first n targets, in their order.
unfoldable pub answers : List ℕ → ℕ → List ℕ
answers s zero = []
answers s (suc n) = answers s n ++ ten_bytes (shown_of s n)

-- "1 to 5 as in reading; then 31, fewer than 10 bytes per target. Then nothing is written and that number is returned; otherwise 0."
unfoldable pub fill_of : List ℕ → List ℕ → Lent ℕ
fill_of s out = lent (reading_of s) answer_size (answers s) out

-- This paper's number for each case of what a fill answers.
abbrev pub not_filled : NotFilled → ℕ
not_filled (refusal.Sheet why) = number_of why
not_filled refusal.NoRoom = 31

abbrev pub returned : Result (Unit {0}) NotFilled → ℕ
returned (Ok _) = 0
returned (Err why) = not_filled why
