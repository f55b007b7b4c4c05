-- `h_series` meets its contract: 61, then 63, then the series, of which no step is refused.
-- Assumes nothing.
use mathlib.Core.Path.{◌≡◌, sym, ap, ◌∙◌}
use Prim.Native.Nat.{◌≤◌}
use native.Mathlib.Omega.{arith}
use Rattle.pairs.specs.declared.answer.Pair.{Pair}
use Rattle.pairs.specs.Rounded.{rounded}
use Rattle.pairs.specs.Figures.{given}
use Rattle.pairs.specs.Answers.{h_series_of}
use Rattle.pairs.specs.Series.{h_series}
use Rattle.pairs.proofs.Terms.{h_series_given}
use Rattle.pairs.proofs.h_series.h_series.Goals as goal

answered : (t r : Pair) → t.low ≤ t.high → t.high ≤ 333_333_333_334 → r ≡ h_series rounded t → given r ≡ h_series_of t
answered t r o h e = ap given e ∙ sym (h_series_given t (omega arith) h)

pub returns : goal.returns
returns c = answered _ _ (omega arith) (omega arith) c.total_of_terms.ensures
