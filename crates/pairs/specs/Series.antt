-- Document 01, "Series", over any arithmetic.
use Rattle.std.specs.Prelude.{ℕ, zero, suc, ◌+◌, ◌*◌}
use Rattle.pairs.specs.Arithmetic.{Arithmetic}

module _ (A : Arithmetic) where
  abbrev pub none : A.Carrier
  none = A.constant 0 1

  abbrev pub one : A.Carrier
  one = A.constant 1 1

  -- The sum of the first n plus terms, and of the first n minus terms, of terms that alternate from plus; terms count from 0.
  unfoldable pub plus_terms : (ℕ → A.Carrier) → ℕ → A.Carrier
  plus_terms term zero = none
  plus_terms term (suc n) = A.sum (plus_terms term n) (term (2 * n))

  unfoldable pub minus_terms : (ℕ → A.Carrier) → ℕ → A.Carrier
  minus_terms term zero = none
  minus_terms term (suc n) = A.sum (minus_terms term n) (term (2 * n + 1))

  -- "Low: the plus terms' low ends less the minus terms' high ends, 16 terms. High: the plus terms' high ends less the
  -- minus terms' low ends, 17 terms. Both raised to 0."
  unfoldable pub alternating : (ℕ → A.Carrier) → A.Carrier
  alternating term =
      let n = A.pairs_of_terms in
      A.difference (A.sum (plus_terms term n) (A.high_only (term (2 * n)))) (minus_terms term n)

  -- "powers p1 = t, next power = last·(t·t)"; power t 0 is p1.
  unfoldable pub power : A.Carrier → ℕ → A.Carrier
  power t zero = t
  power t (suc j) = A.product (power t j) (A.product t t)

  -- "term j = p_j over (2j-1)"; term 0 is that of p1.
  unfoldable pub arc_term : A.Carrier → ℕ → A.Carrier
  arc_term t j = A.over (power t j) (2 * j + 1)

  -- "arc(t), t at most 1: .. signs alternating from plus."
  unfoldable pub arc : A.Carrier → A.Carrier
  arc t = alternating (arc_term (A.at_most_one t))

  -- "atan(t): twice replace t by t/(1+root(1+t·t)), then 4 times arc."
  unfoldable pub half_angle : A.Carrier → A.Carrier
  half_angle t = A.quotient t (A.sum one (A.root (A.sum one (A.product t t))))

  unfoldable pub atan : A.Carrier → A.Carrier
  atan t = A.times (arc (half_angle (half_angle t))) 4

  -- "pi: 16·arc(1/5) - 4·arc(1/239)."
  unfoldable pub pi : A.Carrier
  pi =
      A.difference (A.times (arc (A.quotient one (A.constant 5 1))) 16)
      (A.times (arc (A.quotient one (A.constant 239 1))) 4)

  -- "exp(-y): z = y over 256; term 0 is 1, term j is (term j-1 · z) over j, alternating, 16 and 17 terms as in arc;
  -- the result squared eight times."
  unfoldable pub exp_term : A.Carrier → ℕ → A.Carrier
  exp_term z zero = one
  exp_term z (suc j) = A.over (A.product (exp_term z j) z) (suc j)

  unfoldable pub squared : ℕ → A.Carrier → A.Carrier
  squared zero x = x
  squared (suc n) x = squared n (A.product x x)

  unfoldable pub exp_series : A.Carrier → A.Carrier
  exp_series y = squared 8 (alternating (exp_term (A.over y 256)))

  -- Request 8: "Where y's low end is 20 or more and neither 61 nor 63 applies, exp(-y) shall be the pair [0, 2,062 trillionths]."
  -- Here tested is y, past 61 and 63.
  unfoldable pub exp_neg : A.Carrier → A.Carrier
  exp_neg y = let tested = A.below_256 y in A.unless_cold tested (exp_series tested)

  -- "H(t): sum of arc's terms, all plus: 16 for the low end; for the high end 16 plus the whole power p17."
  unfoldable pub total : (ℕ → A.Carrier) → ℕ → A.Carrier
  total term zero = none
  total term (suc n) = A.sum (total term n) (term n)

  unfoldable pub h_of : A.Carrier → A.Carrier
  h_of t =
      let n = A.pairs_of_terms in
      A.sum (total (arc_term t) (2 * n)) (A.high_only (power t (2 * n)))

  unfoldable pub h_series : A.Carrier → A.Carrier
  h_series t = h_of (A.at_most_a_third t)

  -- "ln 10 = 6·H(1/3) + 2·H(1/9)."
  unfoldable pub ln_ten : A.Carrier
  ln_ten =
      A.sum (A.times (h_series (A.quotient one (A.constant 3 1))) 6)
      (A.times (h_series (A.quotient one (A.constant 9 1))) 2)
