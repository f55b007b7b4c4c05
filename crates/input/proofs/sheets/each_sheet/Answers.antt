-- Nothing is read at first; a turn gives what it read.
use Rattle.std.proofs.Common.{[], ◌++◌, take, length-append, length-take-le, arith, refl}
use Rattle.std.proofs.lemmas.List.Sums.{fold-append}
use Rattle.std.proofs.KnownBytes.{Consumes-nil, Consumes-trans}
use Rattle.input.specs.Sheets.{no_lines, with_byte}
use Rattle.input.proofs.sheets.each_sheet.Goals as goal

pub loop-init : goal.loop-init
loop-init g c =
    (c.requires, [], Consumes-nil _, omega arith, record { calls = refl; sheet = c.empty-line.ensures.0; half = c.empty-line.ensures.1 })

pub loop-preserved : goal.loop-preserved
loop-preserved g c =
    let l = c.loop.invariant in
    let bs = l.1 in
    let n = c.in_ok-n.n in
    let piece = take n c.read.new.buf in
    let long = length-take-le n c.read.new.buf c.in_ok-n.ensures.bound.0 in (
      c.push_bytes.ensures.callable,
      bs ++ piece,
      Consumes-trans _ _ _ bs piece l.2 c.in_ok-n.ensures.bytes.0,
      omega (arith, length-append bs piece, long, l.3, c.if-n-eq0.false),
      rw (fold-append with_byte no_lines bs piece) (c.in_ok-push_bytes.ensures.given _ _ l.4),
    )
