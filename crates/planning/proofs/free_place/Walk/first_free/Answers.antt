-- `first_free` meets its contract: no place that it has left behind is free, and what was asked last is the flux there.
-- Assumes nothing.
use mathlib.Core.Path.{refl, sym, subst, ◌∙◌}
use native.Mathlib.Omega.{arith}
use borrow.Author.Count.{below_more}
use Rattle.planning.specs.Private.{Asked}
use Rattle.planning.proofs.Walk.{NotFree, nowhere, found}
use Rattle.planning.proofs.AskedThere.{passed_over, pair_is, free_there, over_there}
use Rattle.planning.proofs.free_place.Walk.first_free.Goals as goal
use Rattle.planning.proofs.free_place.Walk.first_free.Goals.{then-is_in_span+else-high-self, else-is_in_span}

pub loop-place-preserved : goal.loop-place-preserved
loop-place-preserved c =
    let S = c.args.self.scenario in
    let G = c.args.self.grid.grid in
    let limit = c.args.self.limit in
    let row = c.loop-row.row in
    let place = c.loop-place.place in
    let here = c.rim_distance-rim.ensures in
    let before = c.loop-place.invariant in
    elim c.if-is_in_span.branch [
      | then-is_in_span+else-high-self w ↦ (
          let last = w.asked-last in
          record {
            asked = subst (Asked S) (sym w.last-is) last.ensures.1;
            before_in_row = below_more (NotFree S limit G row) place before.before_in_row (over_there S limit G row place here last.result last.ensures.0 last.ensures.1 w.if-high-self.false);
          }
          )
      | else-is_in_span w ↦ (
          record {
            asked = subst (Asked S) (sym w.last-is) before.asked;
            before_in_row = below_more (NotFree S limit G row) place before.before_in_row (passed_over S limit G row place here (λ i. let no = w.if-is_in_span.ensures.1 i in cc));
          }
          )
    ]

pub returns-then-high-self : goal.returns-then-high-self
returns-then-high-self c =
    let S = c.args.self.scenario in
    let G = c.args.self.grid.grid in
    let limit = c.args.self.limit in
    let row = c.loop-row.row in
    let place = c.loop-place.place in
    let here = c.rim_distance-rim.ensures in
    let last = c.asked-last in
    let free = free_there S limit G row place here last.result last.ensures.0 last.ensures.1 (c.if-is_in_span.ensures.0 refl) c.if-high-self.true in
    pair_is S limit G row place here last.result last.ensures.0 last.ensures.1
    ∙ sym (found S limit G row place c.loop-row-test.true c.loop-place-test.true free c.loop-row.invariant.rows_before c.loop-place.invariant.before_in_row)

pub returns-after-loop-row : goal.returns-after-loop-row
returns-after-loop-row c =
    let w = c.args.self in
    sym (nowhere w.scenario w.limit w.grid.grid (λ r p l k. c.loop-row.invariant.rows_before r p (omega arith) k))
