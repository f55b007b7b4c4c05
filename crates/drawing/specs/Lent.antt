-- The groups of request 4 in a slice that a host in C or Rust lends: what is returned, and what the slice holds afterwards.
use Rattle.std.specs.Prelude.{ℕ, List, [], ◌∷◌, ◌++◌, Float}
use Rattle.sheet.specs.Reading.{reading_of}
use Rattle.sheet.specs.Lent.{Lent, lent}
use Rattle.drawing.specs.declared.figures.Group.{Group}
use Rattle.drawing.specs.Groups.{group_at, listed}

-- A group is three floats: low, middle and high.
abbrev pub group_size : ℕ
group_size = 3

abbrev pub floats : Group → List Float
floats g = g.low ∷ g.middle ∷ g.high ∷ []

unfoldable pub laid_out : List Group → List Float
laid_out [] = []
laid_out (g ∷ gs) = floats g ++ laid_out gs

-- As the fill: "1 to 5 as in reading; then 31", here fewer than three floats per target. "Then nothing is written and that number is
-- returned; otherwise 0." Later floats keep their values.
unfoldable pub fill_groups_of : List ℕ → List Float → Lent Float
fill_groups_of s out = lent (reading_of s) group_size (λ n. laid_out (listed (group_at s) n)) out
