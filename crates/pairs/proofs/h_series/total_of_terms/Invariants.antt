-- `total_of_terms` meets its contract: the loop holds the power n and the sum of n terms.
use mathlib.Core.Path.{◌≡◌}
use Prim.Native.Nat.{ℕ, ◌*◌}
use Rattle.pairs.specs.declared.answer.Pair.{Pair}
use Rattle.pairs.specs.Rounded as R
use Rattle.pairs.specs.Rounded.{U, rounded}
use Rattle.pairs.specs.Series.{arc_term, power, total}
use Rattle.pairs.proofs.Terms.{Within}
use Rattle.pairs.proofs.h_series.total_of_terms.Given as goal

-- After n turns, of a series in t.
pub record Totalled (t p square sum : Pair) (n : ℕ) : Type 0 where
  pub power_is : p ≡ power rounded t n
  pub square_is : square ≡ R.product t t
  pub sum_is : sum ≡ total rounded (arc_term rounded t) n
  pub sum_small : Within (n * U) sum

abbrev pub invariant-loop-n : goal.invariant-loop-n
invariant-loop-n l = Totalled l.fn.t l.terms.power l.terms.square l.sum l.n
