-- `first_free` meets its contract: no place that it has left behind is free, and what was asked last is the flux there.
use Prim.Native.Nat.{ℕ, ◌<◌}
use Rattle.planning.specs.Private.{Asked}
use Rattle.planning.proofs.Walk.{NotFree}
use Rattle.planning.proofs.free_place.Walk.first_free.Given as goal

abbrev pub invariant-loop-place : goal.invariant-loop-place
invariant-loop-place l =
    record {
      asked : Asked l.self.scenario l.last;
      before_in_row : (p : ℕ) → p < l.place → NotFree l.self.scenario l.self.limit l.self.grid.grid l.row p;
    }

abbrev pub invariant-loop-row : goal.invariant-loop-row
invariant-loop-row l =
    record {
      asked : Asked l.self.scenario l.last;
      rows_before : (r p : ℕ) → r < l.row → p < l.self.grid.grid.points → NotFree l.self.scenario l.self.limit l.self.grid.grid r p;
    }
