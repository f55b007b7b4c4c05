-- Document 01, "Sheet and fill": what the desk prints for a sheet.
use Rattle.std.specs.Prelude.{ℕ, zero, suc, ◌+◌, ◌*◌, ◌/◌, ◌%◌, Bool, true, false, List, [], ◌∷◌, ◌++◌, length, drop, ltb}
use Rattle.chain.specs.Flux.{Shown}
use Rattle.sheet.specs.Layout.{most_targets}
use Rattle.sheet.specs.Reading.{Outcome, reading_of}
use Rattle.sheet.specs.Target.{shown_of}

-- "in decimal": the digits of n, most significant first. A number has no more digits than n + 1, which bounds the recursion.
unfoldable pub digits : ℕ → ℕ → List ℕ
digits zero n = []
digits (suc k) n = elim (ltb n 10) [ true ↦ (48 + n) ∷ [] | false ↦ digits k (n / 10) ++ ((48 + n % 10) ∷ []) ]

unfoldable pub decimal : ℕ → List ℕ
decimal n = digits (suc n) n

abbrev pub space : ℕ
space = 32

abbrev pub line_feed : ℕ
line_feed = 10

-- A number and the byte that ends it: "with single spaces; every line it prints ends in one line feed."
unfoldable pub field : ℕ → ℕ → List ℕ
field n end = decimal n ++ (end ∷ [])

-- "per target: index, state, low, high, note"
unfoldable pub line : ℕ → Shown → List ℕ
line i a = field i space ++ field a.state space ++ field a.low space ++ field a.high space ++ field a.note line_feed

-- The lines of the first n targets.
unfoldable pub lines : List ℕ → ℕ → List ℕ
lines s zero = []
lines s (suc n) = lines s n ++ line n (shown_of s n)

-- `targets ` and `sheet `
abbrev pub targets_word : List ℕ
targets_word = 116 ∷ 97 ∷ 114 ∷ 103 ∷ 101 ∷ 116 ∷ 115 ∷ space ∷ []

abbrev pub sheet_word : List ℕ
sheet_word = 115 ∷ 104 ∷ 101 ∷ 101 ∷ 116 ∷ space ∷ []

-- "prints `targets N`, then per target .."
unfoldable pub figures_text : List ℕ → ℕ → List ℕ
figures_text s targets = targets_word ++ field targets line_feed ++ lines s targets

-- "A refused sheet prints `sheet` and its number, and no more."
unfoldable pub refused_text : ℕ → List ℕ
refused_text n = sheet_word ++ field n line_feed

abbrev pub text_after : Outcome → List ℕ → List ℕ
text_after o s = elim o.state [ zero ↦ figures_text s o.targets | suc n ↦ refused_text (suc n) ]

unfoldable pub text_of : List ℕ → List ℕ
text_of s = text_after (reading_of s) s

-- The room that is asked of a lent buffer: 12 bytes for the first line, 34 for each of the most targets.
-- A number of 8 bits has at most 3 digits, one of 32 bits at most 10.
abbrev pub line_room : ℕ
line_room = 34

abbrev pub report_room : ℕ
report_room = 12 + line_room * most_targets

-- The count of bytes written, and the bytes of the lent buffer afterwards.
pub record Reported : Type 0 where
  pub count : ℕ
  pub bytes : List ℕ

-- The first where the test holds, else the second.
abbrev pub either : Bool → Reported → Reported → Reported
either true a b = a
either false a b = b

-- A text at the front of the buffer; later bytes keep their values.
abbrev pub printed : List ℕ → List ℕ → Reported
printed text out = record { count = length text; bytes = text ++ drop (length text) out }

-- With less room nothing is written.
unfoldable pub report_of : List ℕ → List ℕ → Reported
report_of s out = either (ltb (length out) report_room) (record { count = 0; bytes = out }) (printed (text_of s) out)
