-- Document 01, "Fill" under "Turned back": what is returned, and what a lent slice holds afterwards. Once for every kind of element:
-- the bytes of the fill, and the floats of request 4.
use Rattle.std.specs.Prelude.{ℕ, zero, suc, ◌*◌, List, ◌++◌, length, drop, ltb}
use Rattle.pairs.specs.Figures.{refuse}
use Rattle.sheet.specs.Reading.{Outcome}

-- The number returned, and the elements of the lent slice afterwards.
pub record Lent (A : Type 0) : Type 0 where
  pub number : ℕ
  pub elements : List A

-- "Then nothing is written and that number is returned."
abbrev pub untouched : {A : Type 0} → ℕ → List A → Lent A
untouched n out = record { number = n; elements = out }

-- "31, fewer than 10 bytes per target": here `size` elements. "otherwise 0": the elements of so many targets are written. "Later bytes
-- of the lent slice keep their values."
unfoldable pub with_room : {A : Type 0} → ℕ → (ℕ → List A) → ℕ → List A → Lent A
with_room size elements targets out =
    refuse (ltb (length out) (size * targets)) (untouched 31 out)
    (record { number = 0; elements = elements targets ++ drop (size * targets) out })

-- "1 to 5 as in reading; then 31."
abbrev pub lent : {A : Type 0} → Outcome → ℕ → (ℕ → List A) → List A → Lent A
lent o size elements out = elim o.state [ zero ↦ with_room size elements o.targets out | suc n ↦ untouched (suc n) out ]
