-- Document 01, "One pair operation" under "Turned back": what each public operation answers, on all inputs.
use Rattle.std.specs.Prelude.{ℕ, ◌*◌, ◌^◌, true, false, leb, ltb, eqb}
use Rattle.pairs.specs.declared.answer.Pair.{Pair}
use Rattle.pairs.specs.Arithmetic.{Arithmetic}
use Rattle.pairs.specs.Rounded as rounded
use Rattle.pairs.specs.Rounded.{U, is_cold, cold_pair}
use Rattle.pairs.specs.Figures.{Figures, given, refused, refuse, after}
use Rattle.pairs.specs.Series as series

-- "61, a pair whose low end is above its high end": tested of every pair that comes in, before anything else. Else what follows.
abbrev pub admit : Pair → Figures → Figures
admit p f = refuse (ltb p.high p.low) (refused 61) f

-- "64, the high end of the result or of a step in it is 2^64 trillionths or more."
unfoldable pub fitting : Pair → Figures
fitting p = refuse (leb (2 ^ 64) p.high) (refused 64) (given p)

-- ---- the public operations on pairs
unfoldable pub sum_of : Pair → Pair → Figures
sum_of p q = admit p (admit q (fitting (rounded.sum p q)))

unfoldable pub difference_of : Pair → Pair → Figures
difference_of p q = admit p (admit q (fitting (rounded.difference p q)))

unfoldable pub product_of : Pair → Pair → Figures
product_of p q = admit p (admit q (fitting (rounded.product p q)))

-- "62, a divisor whose low end is 0, or the whole number 0 after over."
unfoldable pub quotient_of : Pair → Pair → Figures
quotient_of p q = admit p (admit q (refuse (eqb q.low 0) (refused 62) (fitting (rounded.quotient p q))))

unfoldable pub times_of : Pair → ℕ → Figures
times_of p n = admit p (fitting (rounded.times p n))

unfoldable pub over_of : Pair → ℕ → Figures
over_of p n = admit p (refuse (eqb n 0) (refused 62) (fitting (rounded.over p n)))

-- "Trials inside a root or fifth root are no steps."
unfoldable pub root_of : Pair → Figures
root_of p = admit p (fitting (rounded.root p))

unfoldable pub fifth_root_of : Pair → Figures
fifth_root_of p = admit p (fitting (rounded.fifth_root p))

-- ---- the parts of a series
unfoldable pub high_only_of : Pair → Figures
high_only_of p = fitting (rounded.high_only p)

-- "63, a high end above 1 in arc, above 1/3 (the pair's high end) in H, or y's high end 256 or more in exp."
unfoldable pub at_most_one_of : Pair → Figures
at_most_one_of p = admit p (refuse (ltb U p.high) (refused 63) (given p))

unfoldable pub at_most_a_third_of : Pair → Figures
at_most_a_third_of p = admit p (refuse (ltb (rounded.up (U * U) (3 * U)) p.high) (refused 63) (given p))

unfoldable pub below_256_of : Pair → Figures
below_256_of p = admit p (refuse (leb (256 * U) p.high) (refused 63) (given p))

-- ---- the same on answers: the first refusal that comes in stays
abbrev pub on_one : (Pair → Figures) → Figures → Figures
on_one f a = after a (f a.pair)

abbrev pub on_two : (Pair → Pair → Figures) → Figures → Figures → Figures
on_two f a b = after a (after b (f a.pair b.pair))

unfoldable pub constant : ℕ → ℕ → Figures
constant n d = fitting (rounded.constant n d)

unfoldable pub sum : Figures → Figures → Figures
sum a b = on_two sum_of a b

unfoldable pub difference : Figures → Figures → Figures
difference a b = on_two difference_of a b

unfoldable pub product : Figures → Figures → Figures
product a b = on_two product_of a b

unfoldable pub quotient : Figures → Figures → Figures
quotient a b = on_two quotient_of a b

unfoldable pub times : Figures → ℕ → Figures
times a n = on_one (λ p. times_of p n) a

unfoldable pub over : Figures → ℕ → Figures
over a n = on_one (λ p. over_of p n) a

unfoldable pub root : Figures → Figures
root a = on_one root_of a

unfoldable pub fifth_root : Figures → Figures
fifth_root a = on_one fifth_root_of a

unfoldable pub high_only : Figures → Figures
high_only a = on_one high_only_of a

unfoldable pub at_most_one : Figures → Figures
at_most_one a = on_one at_most_one_of a

unfoldable pub at_most_a_third : Figures → Figures
at_most_a_third a = on_one at_most_a_third_of a

unfoldable pub below_256 : Figures → Figures
below_256 a = on_one below_256_of a

-- Request 8: "and neither 61 nor 63 applies": a refusal of y stays. Where y is cold no step of the series x is taken, so 64 is not given.
unfoldable pub unless_cold : Figures → Figures → Figures
unless_cold a x = after a (elim (is_cold a.pair) [ true ↦ given cold_pair | false ↦ x ])

-- The arithmetic of answers: a pair with ends below 2^64, or the refusal that stays.
abbrev pub answers : Arithmetic
answers =
    record {
      Carrier = Figures;
      constant = constant;
      sum = sum;
      difference = difference;
      product = product;
      quotient = quotient;
      times = times;
      over = over;
      root = root;
      fifth_root = fifth_root;
      high_only = high_only;
      pairs_of_terms = 8;
      at_most_one = at_most_one;
      at_most_a_third = at_most_a_third;
      below_256 = below_256;
      unless_cold = unless_cold;
    }

-- ---- the series on a pair, and the constants
-- "In atan, after 61, the first refusal that its steps meet, in their order, is given."
abbrev pub arc_of : Pair → Figures
arc_of p = series.arc answers (given p)

abbrev pub atan_of : Pair → Figures
atan_of p = series.atan answers (given p)

abbrev pub pi : Figures
pi = series.pi answers

abbrev pub exp_neg_of : Pair → Figures
exp_neg_of p = series.exp_neg answers (given p)

abbrev pub h_series_of : Pair → Figures
h_series_of p = series.h_series answers (given p)

abbrev pub ln_ten : Figures
ln_ten = series.ln_ten answers
