-- Vocabulary of private functions' contracts. No public contract uses it.
use Rattle.std.specs.Prelude.{◌≡◌, ℕ, ◌+◌, ◌*◌, ◌≤◌, Bool, true, false, List, ◌++◌, length, take, drop, leb, ltb, Result, Ok, Err}
use Rattle.chain.specs.Flux.{Shown}
use Rattle.sheet.specs.declared.reading.Fault.{Fault}
use Rattle.sheet.specs.declared.reading.Fault.TheVariants.{CutShort, TooMany}
use Rattle.sheet.specs.declared.target.Entry.{Entry}
use Rattle.sheet.specs.declared.text.Text.{Text}
use Rattle.sheet.specs.Layout.{count_size}
use Rattle.sheet.specs.Bytes.{two}
use Rattle.sheet.specs.Reading.{some}

abbrev pub choose : Bool → Result ℕ Fault → Result ℕ Fault → Result ℕ Fault
choose true a b = a
choose false a b = b

-- A section's count, or its first fault.
unfoldable pub section_of : List ℕ → ℕ → ℕ → ℕ → Result ℕ Fault
section_of s start size most =
    choose (ltb (length s) (start + count_size)) (Err CutShort)
    (choose (ltb most (two s start)) (Err TooMany)
    (choose (ltb (length s) (start + count_size + size * two s start)) (Err CutShort) (Ok (two s start))))

-- What a section that holds n records tells.
pub record Holding (s : List ℕ) (start size most n : ℕ) : Type 0 where
  pub counted : n ≡ two s start
  pub limited : n ≤ most
  pub inside : start + count_size + size * n ≤ length s

-- Whether one of `count` indices, `size` bytes apart from `first` on, is `limit` or more.
unfoldable pub stray : List ℕ → ℕ → ℕ → ℕ → ℕ → Bool
stray s first size count limit = some (λ i. leb limit (two s (first + size * i))) count

abbrev pub shown_by : Entry → Shown
shown_by e = record { state = e.state; low = e.low; high = e.high; note = e.note }

-- d with vs in the place of what stood from `at` on.
unfoldable pub pasted : {A : Type 0} → List A → ℕ → List A → List A
pasted d at vs = take at d ++ (vs ++ drop (at + length vs) d)

-- vs was written after the text so far, in the same buffer.
pub record Writes (t : Text) (vs : List ℕ) (u : Text) : Type 0 where
  pub bytes : u.buffer.now ≡ pasted t.buffer.now t.len vs
  pub after : u.len ≡ t.len + length vs
  pub kept : length u.buffer.now ≡ length t.buffer.now
  pub same : u.buffer.ghost_name ≡ t.buffer.ghost_name
