-- The bytes passed have done to the line what they do to the lines.
use Rattle.std.proofs.Common.{take}
use Rattle.std.specs.List.{fold}
use Rattle.input.specs.Sheets.{Lines, with_byte}
use Rattle.input.specs.Private.{Given}
use Rattle.input.proofs.sheets.Line.push_bytes.Given as goal

abbrev pub invariant-loop-b : goal.invariant-loop-b
invariant-loop-b g l =
    goal.F-IsAlwaysCallable g l.each
    × ((f : _) (lines : Lines) → Given g.F.FnMut f lines l.fn.self l.fn.each → Given g.F.FnMut f (fold with_byte lines (take l.b-index l.piece)) l.self l.each)
