-- Document 01, "Turned back": "In each group the first number that applies, in the order written, is given." A group is the list of
-- its tests, each with its number.
use Rattle.std.specs.Prelude.{Bool, List, [], ◌∷◌, ℕ}
use Rattle.pairs.specs.Figures.{refuse}

pub record Test : Type 0 where
  pub number : ℕ
  pub applies : Bool

abbrev pub test : ℕ → Bool → Test
test number applies = record { number = number; applies = applies }

-- The refusal of the first number that applies, or what follows where none does.
abbrev pub first_that_applies : {R : Type 0} → (ℕ → R) → List Test → R → R
first_that_applies refused [] rest = rest
first_that_applies refused (t ∷ ts) rest = refuse t.applies (refused t.number) (first_that_applies refused ts rest)
