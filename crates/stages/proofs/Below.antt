-- An answer that is not refused had no stage of 2^64 trillionths or more. Each operation keeps that: it tests its result, and what it
-- takes was not refused before it. Assumes nothing.
use mathlib.Core.Path.{◌≡◌, refl, ap₂, subst}
use mathlib.Core.Bool.{Bool, true, false}
use Prim.Native.Nat.{ℕ, ◌*◌, ◌^◌, ◌<◌, max}
use native.Mathlib.Omega.{arith}
use lib.Dec.{leb, ltb, eqb, lit<}
use Rattle.pairs.specs.declared.answer.Pair.{Pair}
use Rattle.pairs.specs.Rounded as R
use Rattle.pairs.specs.Rounded.{U, is_cold, cold_pair}
use Rattle.pairs.specs.Figures.{Figures, given, refused, refuse, after}
use Rattle.pairs.specs.Answers as A
use Rattle.pairs.specs.Answers.{answers, admit, fitting}
use Rattle.pairs.proofs.Agreement.{Agrees, after_passed, past_refusal, past_admit, fitting_below, agreement}
use Rattle.pairs.proofs.Kept.{Kept}
use Rattle.stages.specs.Stages as S
use Rattle.stages.specs.Stages.{Stage, on_one, on_two, stages}

pub record Below (f : Figures) (s : Stage) : Type 0 where
  pub agrees : Agrees f s.pair
  pub below : f.number ≡ 0 → s.largest < 2 ^ 64

both_below : (a b : ℕ) → a < 2 ^ 64 → b < 2 ^ 64 → max a b < 2 ^ 64
both_below a b h k = omega arith

-- ---- a tail t that tests the result of an operation, after what it takes
one_below :
    {a : Figures} {s : Stage} (t : Figures) (operation : Pair → Pair) → Below a s → Agrees (after a t) (operation s.pair)
    → (t.number ≡ 0 → (operation a.pair).high < 2 ^ 64) → Below (after a t) (on_one operation s)
one_below {a} {s} t operation h agrees fits =
    record {
      agrees = agrees;
      below = λ z.
          let w = after_passed a t z in
          both_below s.largest _ (h.below w.first) (subst (λ p. (operation p).high < 2 ^ 64) (h.agrees.same w.first) (fits (rw w.same at z)));
    }

two_below :
    {a b : Figures} {s r : Stage} (t : Figures) (operation : Pair → Pair → Pair) → Below a s → Below b r
    → Agrees (after a (after b t)) (operation s.pair r.pair) → (t.number ≡ 0 → (operation a.pair b.pair).high < 2 ^ 64)
    → Below (after a (after b t)) (on_two operation s r)
two_below {a} {b} {s} {r} t operation h k agrees fits =
    record {
      agrees = agrees;
      below = λ z.
          let v = after_passed a (after b t) z in
          let w = after_passed b t (rw v.same at z) in
          let high : (operation s.pair r.pair).high < 2 ^ 64 =
          subst (λ p. p.high < 2 ^ 64) (ap₂ operation (h.agrees.same v.first) (k.agrees.same w.first)) (fits (rw w.same at (rw v.same at z))) in
          both_below (max s.largest r.largest) _ (both_below s.largest r.largest (h.below v.first) (k.below w.first)) high;
    }

-- An operation that tests 61 and 64 and nothing else, on one pair and on two.
one_tested :
    {a : Figures} {s : Stage} (operation : Pair → Pair) → Below a s
    → Agrees (after a (admit a.pair (fitting (operation a.pair)))) (operation s.pair)
    → Below (after a (admit a.pair (fitting (operation a.pair)))) (on_one operation s)
one_tested {a} operation h agrees =
    let result = operation a.pair in
    one_below (admit a.pair (fitting result)) operation h agrees (λ z. fitting_below result (past_admit a.pair (fitting result) z))

two_tested :
    {a b : Figures} {s r : Stage} (operation : Pair → Pair → Pair) → Below a s → Below b r
    → Agrees (after a (after b (admit a.pair (admit b.pair (fitting (operation a.pair b.pair)))))) (operation s.pair r.pair)
    → Below (after a (after b (admit a.pair (admit b.pair (fitting (operation a.pair b.pair)))))) (on_two operation s r)
two_tested {a} {b} operation h k agrees =
    let result = operation a.pair b.pair in
    two_below (admit a.pair (admit b.pair (fitting result))) operation h k agrees
    (λ z. fitting_below result (past_admit b.pair (fitting result) (past_admit a.pair (admit b.pair (fitting result)) z)))

-- One that tests 62 between them.
quotient_below : {a b : Figures} {s r : Stage} → Below a s → Below b r → Below (A.quotient a b) (on_two R.quotient s r)
unfolding A.quotient A.quotient_of
quotient_below {a} {b} h k =
    let result = R.quotient a.pair b.pair in
    let divided = refuse (eqb b.pair.low 0) (refused 62) (fitting result) in
    two_below (admit a.pair (admit b.pair divided)) R.quotient h k (agreement.quotient h.agrees k.agrees)
    (λ z. fitting_below result (past_refusal (eqb b.pair.low 0) 61 (fitting result) (past_admit b.pair divided (past_admit a.pair (admit b.pair divided) z))))

over_below : {a : Figures} {s : Stage} → Below a s → (n : ℕ) → Below (A.over a n) (on_one (λ p. R.over p n) s)
unfolding A.over A.over_of
over_below {a} h n =
    let result = R.over a.pair n in
    let divided = refuse (eqb n 0) (refused 62) (fitting result) in
    one_below (admit a.pair divided) (λ p. R.over p n) h (agreement.over h.agrees n)
    (λ z. fitting_below result (past_refusal (eqb n 0) 61 (fitting result) (past_admit a.pair divided z)))

-- A last term is not tested for 61.
high_only_below : {a : Figures} {s : Stage} → Below a s → Below (A.high_only a) (on_one R.high_only s)
unfolding A.high_only A.high_only_of
high_only_below {a} h =
    one_below (fitting (R.high_only a.pair)) R.high_only h (agreement.high_only h.agrees) (fitting_below (R.high_only a.pair))

-- A test that lets the pair itself through.
spanning_below :
    {a : Figures} {s : Stage} (b : Bool) → Below a s → Agrees (after a (admit a.pair (refuse b (refused 63) (given a.pair)))) s.pair
    → Below (after a (admit a.pair (refuse b (refused 63) (given a.pair)))) s
spanning_below {a} b h agrees = record { agrees = agrees; below = λ z. h.below (after_passed a _ z).first }

-- The cold pair fits; else the series was taken, and not refused.
taken_below : (b : Bool) (x : Figures) (r : Stage) → Below x r → (elim b as (λ _. Figures) [ true ↦ given cold_pair | false ↦ x ]).number ≡ 0 → (elim b as (λ _. ℕ) [ true ↦ cold_pair.high | false ↦ r.largest ]) < 2 ^ 64
taken_below true x r k z = lit< tt
taken_below false x r k z = k.below z

unless_cold_below : {a x : Figures} {s r : Stage} → Below a s → Below x r → Below (A.unless_cold a x) (S.unless_cold s r)
unfolding A.unless_cold S.unless_cold
unless_cold_below {a} {x} {s} {r} h k =
    record {
      agrees = agreement.unless_cold h.agrees k.agrees;
      below = λ z.
          let t : Figures = elim (is_cold a.pair) [ true ↦ given cold_pair | false ↦ x ] in
          let w = after_passed a t z in
          both_below s.largest _ (h.below w.first)
          (subst (λ p. (elim (is_cold p) as (λ _. ℕ) [ true ↦ cold_pair.high | false ↦ r.largest ]) < 2 ^ 64) (h.agrees.same w.first) (taken_below (is_cold a.pair) x r k (rw w.same at z)));
    }

pub below : Kept answers stages Below
unfolding A.constant A.sum A.sum_of A.difference A.difference_of A.product A.product_of A.times A.times_of A.root A.root_of A.fifth_root A.fifth_root_of A.at_most_one A.at_most_one_of A.at_most_a_third A.at_most_a_third_of A.below_256 A.below_256_of
below =
    record {
      same_terms = refl;
      constant = λ n d. record { agrees = agreement.constant n d; below = λ z. both_below 0 _ (lit< tt) (fitting_below (R.constant n d) z) };
      sum = λ h k. two_tested R.sum h k (agreement.sum h.agrees k.agrees);
      difference = λ h k. two_tested R.difference h k (agreement.difference h.agrees k.agrees);
      product = λ h k. two_tested R.product h k (agreement.product h.agrees k.agrees);
      quotient = quotient_below;
      times = λ h n. one_tested (λ p. R.times p n) h (agreement.times h.agrees n);
      over = over_below;
      root = λ h. one_tested R.root h (agreement.root h.agrees);
      fifth_root = λ h. one_tested R.fifth_root h (agreement.fifth_root h.agrees);
      high_only = high_only_below;
      at_most_one = λ {a} {b} h. spanning_below (ltb U a.pair.high) h (agreement.at_most_one h.agrees);
      at_most_a_third = λ {a} {b} h. spanning_below (ltb (R.up (U * U) (3 * U)) a.pair.high) h (agreement.at_most_a_third h.agrees);
      below_256 = λ {a} {b} h. spanning_below (leb (256 * U) a.pair.high) h (agreement.below_256 h.agrees);
      unless_cold = unless_cold_below;
    }
