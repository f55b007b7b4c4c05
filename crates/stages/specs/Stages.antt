-- The stages of a chain: each pair as `rounded` has it, with the largest high end of all stages up to it. Nothing is refused. Document 01:
-- "m·c·a before the division by 1000 is no stage", "Trials inside a root or fifth root are no steps."
use Rattle.std.specs.Prelude.{ℕ, max, true, false}
use Rattle.pairs.specs.declared.answer.Pair.{Pair}
use Rattle.pairs.specs.Arithmetic.{Arithmetic}
use Rattle.pairs.specs.Rounded as R
use Rattle.pairs.specs.Rounded.{is_cold, cold_pair}

pub record Stage : Type 0 where
  pub pair : Pair
  pub largest : ℕ

-- A stage from its pair and the largest high end before it.
abbrev pub stage : ℕ → Pair → Stage
stage before p = record { pair = p; largest = max before p.high }

abbrev pub on_one : (Pair → Pair) → Stage → Stage
on_one operation s = stage s.largest (operation s.pair)

abbrev pub on_two : (Pair → Pair → Pair) → Stage → Stage → Stage
on_two operation s t = stage (max s.largest t.largest) (operation s.pair t.pair)

-- No span is tested.
abbrev pub untested : Stage → Stage
untested s = s

-- Request 8: the cold pair, or x. Where y is cold no step of the series x is taken.
unfoldable pub unless_cold : Stage → Stage → Stage
unless_cold y x =
    record {
      pair = R.unless_cold y.pair x.pair;
      largest = max y.largest (elim (is_cold y.pair) [ true ↦ cold_pair.high | false ↦ x.largest ]);
    }

abbrev pub stages : Arithmetic
stages =
    record {
      Carrier = Stage;
      constant = λ n d. stage 0 (R.constant n d);
      sum = on_two R.sum;
      difference = on_two R.difference;
      product = on_two R.product;
      quotient = on_two R.quotient;
      times = λ s n. on_one (λ p. R.times p n) s;
      over = λ s n. on_one (λ p. R.over p n) s;
      root = on_one R.root;
      fifth_root = on_one R.fifth_root;
      high_only = on_one R.high_only;
      pairs_of_terms = 8;
      at_most_one = untested;
      at_most_a_third = untested;
      below_256 = untested;
      unless_cold = unless_cold;
    }
