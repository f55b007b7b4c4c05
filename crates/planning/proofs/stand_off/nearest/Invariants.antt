-- `nearest` meets its contract: the limit is kept from where the loop stands to the far end of the span.
use mathlib.Core.Path.{◌≡◌}
use Prim.Native.Nat.{◌≤◌}
use lib.Dec.{T}
use Rattle.std.specs.Prelude.{Ok}
use Rattle.planning.specs.StandOff.{shown, keeps_from, shown_at}
use Rattle.planning.proofs.stand_off.nearest.Given as goal

abbrev pub invariant-loop-decimetres : goal.invariant-loop-decimetres
invariant-loop-decimetres l =
    record {
      here : shown (Ok l.here) ≡ shown_at l.s l.decimetres;
      kept : T (keeps_from l.s l.limit l.decimetres);
      least : 10 ≤ l.decimetres;
    }
