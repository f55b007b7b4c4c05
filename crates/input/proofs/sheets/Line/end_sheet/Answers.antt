-- The call and the empty line are what a line feed does to the lines.
use Rattle.std.proofs.Common.{refl}
use Rattle.input.proofs.Lines.{after_feed, feed_calls}
use Rattle.input.proofs.sheets.Line.end_sheet.Goals as goal

pub returns-clause-given : goal.returns-clause-given
returns-clause-given g c = λ f l given.
    rw (after_feed l)
    (record {
      calls = feed_calls _ f l _ _ _ given (record { shown = _; shows = c.as_slice.ensures.value; called = c.in_ok-each.ensures });
      sheet = c.clear.ensures;
      half = refl;
    })
