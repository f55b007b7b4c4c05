-- arc, atan and pi: the rounded ones overlap the exact ones at every depth from 8 on, and the exact pi lies between 3 and
-- 16/5 at every depth above 0. The powers of t fall where t is at most 1. Assumes nothing.
use mathlib.Core.Path.{◌≡◌, refl, subst}
use Prim.Native.Nat.{ℕ, zero, suc, ◌+◌, ◌*◌, ◌-◌, ◌≤◌, ◌<◌}
use native.Mathlib.Nat.{zero-add, add-sub_of_le}
use native.Mathlib.Omega.{arith}
use lib.Dec.{lit<, lit≤}
use Rattle.pairs.specs.Figures.{Figures}
use Rattle.pairs.specs.Answers.{answers}
use Rattle.pairs.specs.Answers as answer
use Rattle.pairs.specs.Series.{power, arc_term, arc, half_angle, atan, pi, one, plus_terms, minus_terms}
use Rattle.exact.specs.Fraction.{Fraction, ◌⊑◌, whole, ◌⊕◌, ◌⊖◌, ◌⊗◌, ◌⊘◌}
use Rattle.exact.specs.Depth as depth
use Rattle.exact.specs.Depth.{Bracket, exact}
use Rattle.exact.proofs.Order.{◌⟫◌, ⊑_refl, ⊕-left, ⊖-mono, ⊗-mono, ⊗-1, 0_least, over_mono, above_from}
use Rattle.exact.proofs.Sound.{Positive, End, low_end, high_end}
use Rattle.exact.proofs.Passing.{product_first, over_first}
use Rattle.exact.proofs.Meets.{Meets, constant_meets, sum_meets, difference_meets, product_meets, quotient_meets, times_meets, over_meets, root_meets}
use Rattle.exact.proofs.Spans.{at_most_one_meets, at_most_one_bound}
use Rattle.exact.proofs.Alternating.{alternating_meets, pairs_rise, pairs_fall, low_above, high_below}

-- ---- the exact terms fall: the far end of a term is at most the near end of the one before
module _ (n : ℕ) (near far : Bracket → Fraction) (N : End near) (F : End far) (x : Bracket) (crosses : far x ⊑ near x) where
  pub powers_cross : (j : ℕ) → far (power (exact n) x j) ⊑ near (power (exact n) x j)
  unfolding power
  powers_cross zero = crosses
  powers_cross (suc j) =
      rw (N.product_at, F.product_at, N.product_at, F.product_at) (⊗-mono (powers_cross j) (⊗-mono crosses crosses))

  pub arc_terms_fall : far x ⊑ whole 1 → (j : ℕ) → far (arc_term (exact n) x (suc j)) ⊑ near (arc_term (exact n) x j)
  unfolding arc_term power
  arc_terms_fall small j =
      rw (N.over_at, F.over_at, F.product_at, F.product_at)
      (over_mono (2 * j + 1) (2 * suc j + 1) (omega arith) (omega arith)
      (⊗-mono (powers_cross j) (⊗-mono small small ⟫ ⊗-1) ⟫ ⊗-1))

module _ (n : ℕ) {a : Figures} {x : Bracket} (h : Meets a x) where
  pub power_meets : (j : ℕ) → Meets (power answers a j) (power (exact n) x j)
  unfolding power
  power_meets zero = h
  power_meets (suc j) = product_meets (power_meets j) (product_meets h h)

  pub arc_term_meets : (j : ℕ) → Meets (arc_term answers a j) (arc_term (exact n) x j)
  unfolding arc_term
  arc_term_meets j = over_meets (power_meets j) (2 * j + 1) (omega arith)

arc_term_passes : (a : Figures) → (arc_term answers a 1).number ≡ 0 → a.number ≡ 0
unfolding arc_term power
arc_term_passes a h = product_first _ _ (over_first _ _ h)

pub arc_meets : (n : ℕ) → 8 ≤ n → {a : Figures} {x : Bracket} → Meets a x → Meets (arc answers a) (arc (exact n) x)
unfolding arc
arc_meets n deep {a} {x} h =
    alternating_meets n deep _ _ (arc_term_meets n (at_most_one_meets h))
    (λ u. arc_terms_fall n (λ y. y.high) (λ y. y.low) high_end low_end x h.sound.ordered
    (at_most_one_bound h (arc_term_passes (answer.at_most_one a) u)))

-- ---- atan
pub one_meets : (n : ℕ) → Meets (one answers) (one (exact n))
one_meets n = constant_meets 1 1 (lit< tt) refl

pub one_and_more : (n : ℕ) (x : Bracket) → Positive (depth.sum (one (exact n)) x)
unfolding depth.sum depth.constant ◌⊘◌ whole
one_and_more n x = above_from {x = whole 1 ⊘ whole 1} (lit< tt) (⊕-left _ _)

half_angle_meets : (n : ℕ) {a : Figures} {x : Bracket} → Meets a x → Meets (half_angle answers a) (half_angle (exact n) x)
unfolding half_angle
half_angle_meets n h =
    quotient_meets h (sum_meets (one_meets n) (root_meets (sum_meets (one_meets n) (product_meets h h)) n)) (one_and_more n _)

pub atan_meets : (n : ℕ) → 8 ≤ n → {a : Figures} {x : Bracket} → Meets a x → Meets (atan answers a) (atan (exact n) x)
unfolding atan
atan_meets n deep h = times_meets (arc_meets n deep (half_angle_meets n (half_angle_meets n h))) 4

-- ---- pi
pub constant_positive : (d : ℕ) → zero < d → Positive (depth.constant d 1)
unfolding depth.constant ◌⊘◌ whole
constant_positive d p = omega arith

pub reciprocal_meets :
    (n d : ℕ) → zero < d →
    Meets (answer.quotient (one answers) (answer.constant d 1)) (depth.quotient (one (exact n)) (depth.constant d 1))
reciprocal_meets n d p = quotient_meets (one_meets n) (constant_meets d 1 (lit< tt) (omega arith)) (constant_positive d p)

pub pi_meets : (n : ℕ) → 8 ≤ n → Meets (pi answers) (pi (exact n))
unfolding pi
pi_meets n deep =
    difference_meets (times_meets (arc_meets n deep (reciprocal_meets n 5 (lit< tt))) 16)
    (times_meets (arc_meets n deep (reciprocal_meets n 239 (lit< tt))) 4)

unfoldable pub ratio : (a b : ℕ) → zero < b → Fraction
ratio a b p = record { num = a; den = b; den_above_0 = p }

-- 1 over 5 and 1 over 239 are points: their arcs are bounded by the first terms.
abbrev reciprocal : ℕ → Bracket
reciprocal d = depth.quotient (depth.constant 1 1) (depth.constant d 1)

module _ (d : ℕ) (p : zero < d) (n : ℕ) where
  point : (reciprocal d).high ⊑ (reciprocal d).low
  unfolding depth.quotient depth.constant
  point = ⊑_refl

  small : (reciprocal d).high ⊑ whole 1
  unfolding depth.quotient depth.constant ◌⊘◌ whole
  small = record { cross = omega arith }

  falls : (j : ℕ) → (arc_term (exact n) (reciprocal d) (suc j)).high ⊑ (arc_term (exact n) (reciprocal d) j).low
  falls = arc_terms_fall n (λ y. y.low) (λ y. y.high) low_end high_end (reciprocal d) point small

arc_of_a_fifth_low : (r : ℕ) → ratio 37 188 (lit< tt) ⊑ (arc (exact (1 + r)) (reciprocal 5)).low
unfolding arc plus_terms minus_terms arc_term power ratio depth.sum depth.product depth.quotient depth.over depth.constant ◌⊗◌ ◌⊘◌ ◌⊕◌ whole
arc_of_a_fifth_low r =
    let term = arc_term (exact (1 + r)) (reciprocal 5) in
    let bound = ratio 37 188 (lit< tt) in
    low_above (1 + r) term bound
    (pairs_rise (1 + r) (λ y. y.low) (λ y. y.high) low_end high_end term (falls 5 (lit< tt) (1 + r)) bound 1 r
    (record { cross = lit≤ tt }))

first_term :
    (d n : ℕ) (p : zero < d) →
    let term = arc_term (exact n) (reciprocal d) in
    (plus_terms (exact n) term 0).high ⊕ (term 0).high ⊑ ratio 1 d p ⊕ (minus_terms (exact n) term 0).low
unfolding plus_terms minus_terms arc_term power ratio depth.product depth.quotient depth.over depth.constant ◌⊗◌ ◌⊘◌ ◌⊕◌ whole
first_term d n p = record { cross = omega arith }

arc_of_reciprocal_high : (d n : ℕ) (p : zero < d) → (arc (exact n) (reciprocal d)).high ⊑ ratio 1 d p
unfolding arc
arc_of_reciprocal_high d n p =
    let term = arc_term (exact n) (reciprocal d) in
    high_below n term _
    (rw zero-add at
    (pairs_fall n (λ y. y.high) (λ y. y.low) high_end low_end term (falls d p n) (ratio 1 d p) 0 n (first_term d n p)))

three : whole 3 ⊑ ratio 37 188 (lit< tt) ⊗ whole 16 ⊖ ratio 1 239 (lit< tt) ⊗ whole 4
unfolding ratio whole ◌⊗◌ ◌⊖◌
three = record { cross = lit≤ tt }

sixteen_fifths : ratio 1 5 (lit< tt) ⊗ whole 16 ⊖ whole 0 ⊑ ratio 16 5 (lit< tt)
unfolding ratio whole ◌⊗◌ ◌⊖◌
sixteen_fifths = record { cross = lit≤ tt }

pi_low_from : (r : ℕ) → whole 3 ⊑ (pi (exact (1 + r))).low
unfolding pi depth.difference depth.times
pi_low_from r =
    three
    ⟫ ⊖-mono (⊗-mono (arc_of_a_fifth_low r) ⊑_refl) (⊗-mono (arc_of_reciprocal_high 239 (1 + r) (lit< tt)) ⊑_refl)

pub pi_low : (n : ℕ) → 1 ≤ n → whole 3 ⊑ (pi (exact n)).low
pi_low n p = subst (λ m. whole 3 ⊑ (pi (exact m)).low) (add-sub_of_le p) (pi_low_from (n - 1))

pub pi_high : (n : ℕ) → (pi (exact n)).high ⊑ ratio 16 5 (lit< tt)
unfolding pi depth.difference depth.times
pi_high n = ⊖-mono (⊗-mono (arc_of_reciprocal_high 5 n (lit< tt)) ⊑_refl) 0_least ⟫ sixteen_fifths
