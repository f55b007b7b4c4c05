-- This paper's number and pair of what an operation answers: 0 and the pair, or the number of the refusal and [0, 0].
use Rattle.std.specs.Prelude.{ℕ, zero, suc, Bool, true, false, Result, Ok, Err}
use Rattle.pairs.specs.declared.answer.Pair.{Pair}
use Rattle.pairs.specs.declared.answer.Refusal.{Refusal}
use Rattle.pairs.specs.declared.answer.Refusal.TheVariants.{Disordered, ZeroDivisor, OutOfSpan, TooLarge}
use Rattle.pairs.specs.Rounded.{ends}

pub record Figures : Type 0 where
  pub number : ℕ
  pub pair : Pair

abbrev pub given : Pair → Figures
given p = record { number = 0; pair = p }

-- "Returns [0, 0]."
abbrev pub refused : ℕ → Figures
refused n = record { number = n; pair = ends 0 0 }

-- The numbers of "One pair operation".
abbrev pub number_of : Refusal → ℕ
number_of Disordered = 61
number_of ZeroDivisor = 62
number_of OutOfSpan = 63
number_of TooLarge = 64

abbrev pub figures : Result Pair Refusal → Figures
figures (Ok p) = given p
figures (Err why) = refused (number_of why)

-- The refusal where the test holds, else what follows: "the first number that applies, in the order written, is given."
-- Once for all that can be refused: a pair operation, a flux, a sheet.
abbrev pub refuse : {R : Type 0} → Bool → R → R → R
refuse true refusal rest = refusal
refuse false refusal rest = rest

-- What follows, unless a was refused: then that refusal stays.
abbrev pub after : Figures → Figures → Figures
after a f = elim a.number [ zero ↦ f | suc _ ↦ a ]
