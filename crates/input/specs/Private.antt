-- Vocabulary of private functions' contracts. No public contract uses it.
use Rattle.std.specs.Prelude.{◌≡◌, List, ℕ, Ok}
use Rattle.std.specs.List.{FoldsTo}
use Rattle.std.specs.Fn.{CalledAt}
use Rattle.input.specs.declared.sheets.Line.{Line}
use Rattle.input.specs.Sheets.{Lines}
use denote.Param.Members.{Mut}
use denote.Ref.{Bor}
use Rattle.std.specs.declared.result.Result.{Result}

-- The lines of some sheets that have ended and the line so far.
abbrev pub with_line : List (List ℕ) → Line → Lines
with_line ended line = record { ended = ended; sheet = line.sheet.items; half = line.half }

-- The sheets that have ended took `each` from f to f', in their order and with no error, and the line so far is that of the lines.
pub record Given {F E : Type 0} (g : Mut F (Bor (List ℕ) × Unit {0}) (Result (Unit {0}) E)) (f : F) (l : Lines) (line : Line) (f' : F) : Type 0 where
  pub calls : FoldsTo (λ p sheet q. CalledAt g p sheet (Ok tt) q) f l.ended f'
  pub sheet : line.sheet.items ≡ l.sheet
  pub half : line.half ≡ l.half
