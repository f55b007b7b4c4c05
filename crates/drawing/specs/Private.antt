-- Vocabulary of private functions' contracts. No public contract uses it.
use Rattle.std.specs.Prelude.{ℕ, ◌+◌, ◌*◌, List}
use Rattle.chain.specs.Flux.{Shown}
use Rattle.sheet.specs.Layout.{answer_size}
use Rattle.sheet.specs.Bytes.{one, four}
use Rattle.drawing.specs.declared.figures.Group.{Group}
use Rattle.drawing.specs.Figures.{ends, group_of}

-- What the ten bytes of an answer say, from `at` on: state, low, high and note.
unfoldable pub shown_in : List ℕ → ℕ → Shown
shown_in answers at =
    record { state = one answers at; low = four answers (at + 1); high = four answers (at + 5); note = one answers (at + 9) }

-- The group of answer i.
unfoldable pub group_in : List ℕ → ℕ → Group
group_in answers i = group_of (ends (shown_in answers (answer_size * i)))
