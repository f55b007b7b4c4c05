-- Request 4: the groups of a sheet, by value.
use Rattle.std.specs.Prelude.{ℕ, zero, suc, ◌-◌, List, [], ◌∷◌, ◌++◌, length, replicate, Ok, Err}
use Rattle.std.specs.declared.result.Result.{Result}
use Rattle.sheet.specs.Layout.{most_targets}
use Rattle.sheet.specs.declared.reading.Fault.{Fault}
use Rattle.sheet.specs.Reading.{number_of, reading_of}
use Rattle.sheet.specs.Target.{shown_of}
use Rattle.drawing.specs.declared.figures.Group.{Group}
use Rattle.drawing.specs.declared.groups.Groups as value
use Rattle.drawing.specs.Figures.{ends, three_zeros, group_of}

-- The number of the sheet's refusal, or 0; how many targets it has; and the group of each, in their order, with three zeros past
-- the last one.
pub record Groups : Type 0 where
  pub number : ℕ
  pub count : ℕ
  pub groups : List Group

-- The group of target i.
unfoldable pub group_at : List ℕ → ℕ → Group
group_at s i = group_of (ends (shown_of s i))

-- "one group per target in their order": the first n of them.
unfoldable pub listed : (ℕ → Group) → ℕ → List Group
listed group zero = []
listed group (suc n) = listed group n ++ (group n ∷ [])

-- Every group past the last one is three zeros.
abbrev pub padded : List Group → List Group
padded gs = gs ++ replicate (most_targets - length gs) three_zeros

-- "a refused sheet gives its number and no group": reading gives such a sheet its number and no target, and a sheet that is read 0
-- and its targets.
unfoldable pub groups_of : List ℕ → Groups
groups_of s =
    record {
      number = (reading_of s).state;
      count = (reading_of s).targets;
      groups = padded (listed (group_at s) (reading_of s).targets);
    }

-- This paper's number, count and groups for each case of the answer.
abbrev pub groups_shown : Result value.Groups Fault → Groups
groups_shown (Ok gs) = record { number = 0; count = gs.count; groups = gs.groups }
groups_shown (Err why) = record { number = number_of why; count = 0; groups = padded [] }
