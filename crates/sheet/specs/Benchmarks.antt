-- Document 01, "Benchmarks": the table to be proved, A to J.
use Rattle.std.specs.Prelude.{◌≡◌, [], ◌∷◌, ℕ, ◌*◌}
use Rattle.pairs.specs.declared.answer.Pair.{Pair}
use Rattle.pairs.specs.Rounded.{U, ends}
use Rattle.pairs.specs.Figures.{given}
use Rattle.pairs.specs.Answers.{root_of, fifth_root_of, product_of, quotient_of, difference_of}
use Rattle.sheet.specs.Reading.{refused, reading_of}

-- The pair of a whole number.
abbrev pub whole : ℕ → Pair
whole n = ends (n * U) (n * U)

pub record Benchmarks : Type 0 where
  -- "A root of 4 is [2, 2]"
  pub A : root_of (whole 4) ≡ given (whole 2)
  -- "B root of 2 is 1,414,213,562,373 and ..374 trillionths"
  pub B : root_of (whole 2) ≡ given (ends 1_414_213_562_373 1_414_213_562_374)
  -- "C fifth root of 32 is [2, 2]"
  pub C : fifth_root_of (whole 32) ≡ given (whole 2)
  -- "D one trillionth times itself is [0, 1] trillionths"
  pub D : product_of (ends 1 1) (ends 1 1) ≡ given (ends 0 1)
  -- "E 1/3 is 333,333,333,333 and ..334"
  pub E : quotient_of (whole 1) (whole 3) ≡ given (ends 333_333_333_333 333_333_333_334)
  -- "F 1-2 is [0, 0]"
  pub F : difference_of (whole 1) (whole 2) ≡ given (ends 0 0)
  -- "G six zero bytes: accepted, no targets"
  pub G : reading_of (0 ∷ 0 ∷ 0 ∷ 0 ∷ 0 ∷ 0 ∷ []) ≡ record { state = 0; fuels = 0; pools = 0; targets = 0 }
  -- "H five: refused 1"
  pub H : reading_of (0 ∷ 0 ∷ 0 ∷ 0 ∷ 0 ∷ []) ≡ refused 1
  -- "I seven: refused 3"
  pub I : reading_of (0 ∷ 0 ∷ 0 ∷ 0 ∷ 0 ∷ 0 ∷ 0 ∷ []) ≡ refused 3
  -- "J count 65 first, in a sheet of two bytes: refused 2"
  pub J : reading_of (0 ∷ 65 ∷ []) ≡ refused 2
