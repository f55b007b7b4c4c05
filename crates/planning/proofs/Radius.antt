-- The radius as the code works it out, operation by operation, is R of step 1; and a circle of the radius in whole mm covers the pool's
-- area, with pi at its low end. From what each high end covers. Assumes nothing.
use mathlib.Core.Path.{◌≡◌, refl, sym, ap, ap₂, subst, ◌∙◌}
use Prim.Native.Nat.{ℕ, ◌+◌, ◌*◌, ◌/◌, ◌≤◌}
use native.Mathlib.Nat.{mul-le-mul}
use native.Mathlib.Omega.{arith}
use lib.Dec.{lit<}
use Rattle.pairs.specs.declared.answer.Pair.{Pair}
use Rattle.pairs.specs.Rounded as R
use Rattle.pairs.specs.Rounded.{U, ends, rounded}
use Rattle.pairs.specs.Figures.{Figures, given, refused, number_of, figures}
use Rattle.std.specs.Prelude.{Result, Ok, Err}
use Rattle.std.specs.Int.{div_ceil}
use Rattle.pairs.specs.declared.answer.Refusal.{Refusal}
use Rattle.pairs.specs.declared.answer.Refusal.TheVariants.{Disordered, ZeroDivisor, OutOfSpan, TooLarge}
use Rattle.pairs.specs.Answers as A
use Rattle.pairs.specs.Answers.{quotient_of, root_of, over_of}
use Rattle.pairs.specs.Series.{pi}
use Rattle.pairs.proofs.Lifted.{Handed, root_handed, over_handed, quotient_given}
use Rattle.pairs.proofs.Rounding.{up_by, up_covers, up_least}
use Rattle.pairs.proofs.PiPair.{pi_pair}
use Rattle.pairs.proofs.Covers.{constant_high, quotient_covers, over_covers, root_covers}
use Rattle.chain.specs.Chain.{diameter, radius}
use Rattle.chain.proofs.Constants.{exact_pair}
use Rattle.chain.proofs.PoolAlone.{radius_held, radius_given}
use Rattle.planning.specs.Distance.{radius_pair, radius_of}

-- ---- the operations
-- No refusal has the number 0.
pub refused_not_given : (why : Refusal) (p : Pair) → refused (number_of why) ≡ given p → ⊥
refused_not_given Disordered p e = omega (arith, ap (λ (f : Figures). f.number) e)
refused_not_given ZeroDivisor p e = omega (arith, ap (λ (f : Figures). f.number) e)
refused_not_given OutOfSpan p e = omega (arith, ap (λ (f : Figures). f.number) e)
refused_not_given TooLarge p e = omega (arith, ap (λ (f : Figures). f.number) e)

pub is_ok : (r : Result Pair Refusal) (p : Pair) → figures r ≡ given p → r ≡ Ok p
is_ok (Ok x) p e = ap (λ (f : Figures). Ok f.pair) e
is_ok (Err why) p e = absurd (refused_not_given why p e)

pair_given : (f : Figures) → f.number ≡ 0 → f ≡ given f.pair
pair_given f z = ap (λ (n : ℕ). record { number = n; pair = f.pair }) z

module _ (area : ℕ) (l : 100 ≤ area) (h : area ≤ 190_000) where
  -- D squared, and D
  abbrev Q : Figures
  Q = A.quotient (A.constant (4 * area) 100) A.pi

  abbrev D : Figures
  D = A.root Q

  given_radius : A.over D 2 ≡ given (radius_pair area)
  unfolding radius diameter
  given_radius = radius_given area l h

  over_it : Handed (λ p. over_of p 2) D (A.over D 2)
  over_it = over_handed D 2 (ap (λ (f : Figures). f.number) given_radius)

  root_it : Handed root_of Q D
  root_it = root_handed Q over_it.0

  pub square_is :
      {a : ℕ} {pi_pair : Pair} → a ≡ area → given pi_pair ≡ A.pi
      → quotient_of (ends (a * 40_000_000_000) (a * 40_000_000_000)) pi_pair ≡ given Q.pair
  square_is {a} {pi_pair} e is_pi =
      sym (quotient_given _ pi_pair) ∙ ap (λ (x : ℕ). A.quotient (given (ends (x * 40_000_000_000) (x * 40_000_000_000))) (given pi_pair)) e
      ∙ ap₂ A.quotient (exact_pair (4 * area) 100 (area * 40_000_000_000) (omega arith) (omega arith)) is_pi
      ∙ pair_given Q root_it.0

  pub across_is : {square : Pair} → square ≡ Q.pair → root_of square ≡ given D.pair
  across_is e = ap root_of e ∙ sym root_it.1 ∙ pair_given D over_it.0

  pub half_is : {across : Pair} → across ≡ D.pair → over_of across 2 ≡ given (radius_pair area)
  half_is e = ap (λ (p : Pair). over_of p 2) e ∙ sym over_it.1 ∙ given_radius

-- ---- the pair
-- It is 25 m at most inside the limits of an area.
pub radius_most : (area : ℕ) → 100 ≤ area → area ≤ 190_000 → (radius_pair area).high ≤ 25 * U
radius_most area l h = subst (λ (f : Figures). f.pair.high ≤ 25 * U) (radius_given area l h) (radius_held area l h).inside.high

-- ---- in whole mm
pub in_mm : (area n : ℕ) → n ≡ (radius_pair area).high → (n + 999_999_999) / 1_000_000_000 ≡ radius_of area
unfolding radius_of
in_mm area n e = ap (λ (x : ℕ). (x + 999_999_999) / 1_000_000_000) e ∙ up_by (radius_pair area).high 1_000_000_000

pub rounded_up : (area : ℕ) → div_ceil (radius_pair area).high 1_000_000_000 ≡ radius_of area
rounded_up area = omega (arith, in_mm area (radius_pair area).high refl)

pub radius_of_most : (area : ℕ) → 100 ≤ area → area ≤ 190_000 → radius_of area ≤ 25_000
unfolding radius_of
radius_of_most area l h = up_least (radius_pair area).high 1_000_000_000 25_000 (lit< tt) (radius_most area l h)

-- The area of a circle of that radius, with pi at its low end.
four_areas : (area : ℕ) → (R.constant (4 * area) 100).high ≡ area * 40_000_000_000
four_areas area = constant_high (4 * area) 100 (area * 40_000_000_000) (omega arith)

-- D is twice R, in trillionths of a metre.
twice : (r d : ℕ) → d ≤ r * 2_000_000_000 → d * d ≤ r * r * 4_000_000_000_000_000_000
twice r d h = omega (arith, mul-le-mul h h)

pub area_covered : (area : ℕ) → area * 10_000 * U ≤ radius_of area * radius_of area * 3_141_592_653_444
unfolding radius_of radius diameter
area_covered area =
    let r = radius_of area in
    let square = R.quotient (R.constant (4 * area) 100) (pi rounded) in
    let across = R.root square in
    let low : (pi rounded).low ≡ 3_141_592_653_444 = ap (λ (p : Pair). p.low) pi_pair in
    let divided : area * 40_000_000_000 * U ≤ square.high * 3_141_592_653_444 = rw (← four_areas area, ← low) (quotient_covers (R.constant (4 * area) 100) (pi rounded) (omega arith)) in
    let doubled : across.high ≤ r * 2_000_000_000 = omega (arith, over_covers across 2 (lit< tt), up_covers (radius_pair area).high 1_000_000_000 (lit< tt)) in
    omega (arith, divided, root_covers square, twice r across.high doubled)
