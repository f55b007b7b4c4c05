-- Document 01, "Factor alone" under "Turned back": the configuration factor from l and e, on all numbers.
use Rattle.std.specs.Prelude.{List, [], ◌∷◌, ℕ, Result, Ok, Err}
use Rattle.pairs.specs.declared.answer.Pair.{Pair}
use Rattle.pairs.specs.Rounded.{ends, rounded}
use Rattle.pairs.specs.Figures.{Figures, given, refused}
use Rattle.chain.specs.declared.enquiry.Outside.{Outside}
use Rattle.chain.specs.declared.enquiry.Outside.TheVariants as reason
use Rattle.chain.specs.Chain.{factor}
use Rattle.chain.specs.Tests.{Test, test, first_that_applies}
use Rattle.chain.specs.Flux.{outside}

-- The numbers of "Factor alone".
abbrev pub number_of : Outside → ℕ
number_of reason.Height = 21
number_of reason.Distance = 22
number_of reason.Face = 23

-- This paper's number and pair of what the factor answers; "Returns [0, 0]."
abbrev pub figures : Result Pair Outside → Figures
figures (Ok p) = given p
figures (Err why) = refused (number_of why)

-- "21, l outside 0.5 to 13; 22, e outside 0.04 to 400; 23, face", "each one whole number of trillionths taken as an exact pair".
-- Request 1: "Factor alone now takes l from 0 to 40, and no height."
unfoldable pub factor_tests : ℕ → ℕ → ℕ → List Test
factor_tests l e face =
    test 21 (outside 0 40_000_000_000_000 l)
    ∷ test 22 (outside 40_000_000_000 400_000_000_000_000 e)
    ∷ test 23 (outside 1 3 face)
    ∷ []

-- "Returns [0, 0]." with each of them.
unfoldable pub factor_of : ℕ → ℕ → ℕ → Figures
factor_of l e face = first_that_applies refused (factor_tests l e face) (given (factor rounded face (ends l l) (ends e e)))
