-- What was consumed has been given, and each turn consumed a byte.
use Rattle.std.proofs.Common.{List, ℕ, ◌≤◌, length}
use Rattle.std.specs.List.{fold}
use Rattle.std.specs.Io.KnownBytes.{Consumes}
use Rattle.input.specs.Sheets.{no_lines, with_byte}
use Rattle.input.specs.Private.{Given}
use Rattle.input.proofs.sheets.each_sheet.Given as goal

abbrev pub invariant-loop : goal.invariant-loop
invariant-loop g l =
    goal.F-IsAlwaysCallable g l.each
    × (bs : List ℕ) × Consumes (g.R.Read.remaining l.initial.input) (g.R.Read.remaining l.input) bs
    × (l.counter ≤ length bs) × Given g.F.FnMut l.fn.each (fold with_byte no_lines bs) l.line l.each
