-- What `answers` gives is what `rounded` gives, wherever it does not refuse, and then low is at most high and high below 2^64.
-- An operation that gives had both its parts given, and met no test. Assumes nothing.
use mathlib.Core.Path.{◌≡◌, refl, sym, ap, ap₂, subst, ◌∙◌}
use mathlib.Core.Bool.{Bool, true, false}
use Prim.Native.Nat.{ℕ, zero, suc, ◌*◌, ◌^◌, ◌<◌, zero-le}
use native.Mathlib.Nat.{not-le_of_lt, lt_of_not-le, zero-lt-suc}
use native.Mathlib.Omega.{arith}
use lib.Dec.{T, leb, ltb, eqb, leb→le, le→leb}
use Rattle.pairs.specs.declared.answer.Pair.{Pair}
use Rattle.pairs.specs.Rounded as R
use Rattle.pairs.specs.Rounded.{U, rounded, is_cold, cold_pair}
use Rattle.pairs.specs.Figures.{Figures, given, refused, refuse, after}
use Rattle.pairs.specs.Answers as A
use Rattle.pairs.specs.Answers.{answers, admit, fitting}
use Rattle.pairs.proofs.Tests.{past_test}
use Rattle.pairs.proofs.Kept.{Kept, choice_kept}
use Rattle.pairs.proofs.Ordered as O
use Rattle.pairs.proofs.Ordered.{Ordered}

-- ---- what stands behind a result that is not refused
pub record Passed (a f : Figures) : Type 0 where
  pub first : a.number ≡ 0
  pub same : after a f ≡ f

pub after_passed : (a f : Figures) → (after a f).number ≡ 0 → Passed a f
after_passed a f h = by_number a.number a.pair h
  where
    by_number : (n : ℕ) (p : Pair) → (after (record { number = n; pair = p }) f).number ≡ 0 → Passed (record { number = n; pair = p }) f
    by_number zero p e = record { first = refl; same = refl }
    by_number (suc n) p e = absurd (omega (arith, e))

-- A refusal's test failed, and what follows stands.
pub refuse_passed : (b : Bool) (n : ℕ) (f : Figures) → (refuse b (refused (suc n)) f).number ≡ 0 → (T b → ⊥) × (refuse b (refused (suc n)) f ≡ f)
refuse_passed b n f h =
    let failed = (past_test (λ (f : Figures). f.number ≡ 0) b (λ _ e. omega (arith, e)) h).0 in
    ((λ t. subst T failed t), rw failed)

pub past_refusal : (b : Bool) (n : ℕ) (f : Figures) → (refuse b (refused (suc n)) f).number ≡ 0 → f.number ≡ 0
past_refusal b n f h = rw (refuse_passed b n f h).1 at h

pub fitting_passed : (p : Pair) → (fitting p).number ≡ 0 → fitting p ≡ given p
unfolding fitting
fitting_passed p h = (refuse_passed (leb (2 ^ 64) p.high) 63 (given p) h).1

pub fitting_below : (p : Pair) → (fitting p).number ≡ 0 → p.high < 2 ^ 64
unfolding fitting
fitting_below p h = lt_of_not-le (λ k. (refuse_passed (leb (2 ^ 64) p.high) 63 (given p) h).0 (le→leb (2 ^ 64) p.high k))

-- ---- the other way: what is not refused
pub after_given : (a f : Figures) → a.number ≡ 0 → after a f ≡ f
after_given a f e = by_number a.number a.pair e
  where
    by_number : (n : ℕ) (p : Pair) → n ≡ 0 → after (record { number = n; pair = p }) f ≡ f
    by_number zero p e = refl
    by_number (suc n) p e = absurd (omega (arith, e))

pub refuse_given : (b : Bool) (n : ℕ) (f : Figures) → (T b → ⊥) → refuse b (refused n) f ≡ f
refuse_given true n f h = absurd (h tt)
refuse_given false n f h = refl

pub fitting_given : (p : Pair) → p.high < 2 ^ 64 → fitting p ≡ given p
unfolding fitting
fitting_given p h = refuse_given (leb (2 ^ 64) p.high) 64 (given p) (λ t. not-le_of_lt h (leb→le (2 ^ 64) p.high t))

-- ---- agreement
pub record Agrees (f : Figures) (p : Pair) : Type 0 where
  pub same : f.number ≡ 0 → f.pair ≡ p
  pub ordered : f.number ≡ 0 → Ordered f.pair

-- What is not refused is the rounded pair.
pub agreed : {f : Figures} {p : Pair} → Agrees f p → f.number ≡ 0 → f ≡ given p
agreed h z = λ i. record { number = z i; pair = h.same z i }

-- An answer that is ordered where it is given agrees with its own pair.
pub itself : (f : Figures) → (f.number ≡ 0 → Ordered f.pair) → Agrees f f.pair
itself f h = record { same = λ _. refl; ordered = h }

-- A tail t that gives the pair of an operation, after what it takes.
one_part : {a : Figures} {p : Pair} (t : Figures) (op : Pair → Pair) → Agrees a p → (t.number ≡ 0 → t.pair ≡ op a.pair) → (t.number ≡ 0 → Ordered a.pair → Ordered (op a.pair)) → Agrees (after a t) (op p)
one_part {a} {p} t op h same ord =
    record {
      same = λ z. let w = after_passed a t z in rw w.same (same (rw w.same at z) ∙ ap op (h.same w.first));
      ordered = λ z.
          let w = after_passed a t z in
          let y : t.number ≡ 0 = rw w.same at z in
          rw w.same (subst Ordered (sym (same y)) (ord y (h.ordered w.first)));
    }

two_parts : {a b : Figures} {p q : Pair} (t : Figures) (op : Pair → Pair → Pair) → Agrees a p → Agrees b q → (t.number ≡ 0 → t.pair ≡ op a.pair b.pair) → (t.number ≡ 0 → Ordered a.pair → Ordered b.pair → Ordered (op a.pair b.pair)) → Agrees (after a (after b t)) (op p q)
two_parts {a} {b} {p} {q} t op h k same ord =
    record {
      same = λ z.
          let v = after_passed a (after b t) z in
          let w = after_passed b t (rw v.same at z) in
          rw (v.same, w.same) (same (rw w.same at (rw v.same at z)) ∙ ap₂ op (h.same v.first) (k.same w.first));
      ordered = λ z.
          let v = after_passed a (after b t) z in
          let w = after_passed b t (rw v.same at z) in
          let y : t.number ≡ 0 = rw w.same at (rw v.same at z) in
          rw (v.same, w.same) (subst Ordered (sym (same y)) (ord y (h.ordered v.first) (k.ordered w.first)));
    }

fitting_same : (p : Pair) → (fitting p).number ≡ 0 → (fitting p).pair ≡ p
fitting_same p z = ap (λ (f : Figures). f.pair) (fitting_passed p z)

-- A test before what gives the pair.
tested_same : {p : Pair} (b : Bool) (n : ℕ) (f : Figures) → (f.number ≡ 0 → f.pair ≡ p) → (refuse b (refused (suc n)) f).number ≡ 0 → (refuse b (refused (suc n)) f).pair ≡ p
tested_same b n f h z = let w = (refuse_passed b n f z).1 in rw w (h (rw w at z))

admit_same : {r : Pair} (p : Pair) (f : Figures) → (f.number ≡ 0 → f.pair ≡ r) → (admit p f).number ≡ 0 → (admit p f).pair ≡ r
admit_same p = tested_same (ltb p.high p.low) 60

admit_two_same : {r : Pair} (p q : Pair) (f : Figures) → (f.number ≡ 0 → f.pair ≡ r) → (admit p (admit q f)).number ≡ 0 → (admit p (admit q f)).pair ≡ r
admit_two_same p q f h = admit_same p (admit q f) (admit_same q f h)

pub past_admit : (p : Pair) (f : Figures) → (admit p f).number ≡ 0 → f.number ≡ 0
past_admit p f = past_refusal (ltb p.high p.low) 60 f

-- A test that lets the pair itself through.
let_through : {a : Figures} {p : Pair} (b : Bool) → Agrees a p → Agrees (after a (admit a.pair (refuse b (refused 63) (given a.pair)))) p
let_through {a} b h =
    one_part (admit a.pair (refuse b (refused 63) (given a.pair))) (λ p. p) h
    (admit_same a.pair (refuse b (refused 63) (given a.pair)) (tested_same b 62 (given a.pair) (λ _. refl))) (λ z o. o)

pub above_0 : (n : ℕ) → (T (eqb n 0) → ⊥) → zero < n
above_0 zero h = absurd (h tt)
above_0 (suc n) h = zero-lt-suc n

quotient_agrees : {a b : Figures} {p q : Pair} → Agrees a p → Agrees b q → Agrees (A.quotient a b) (R.quotient p q)
unfolding A.quotient A.quotient_of
quotient_agrees {a} {b} h k =
    let no_divisor : Bool = eqb b.pair.low 0 in
    let fits = fitting (R.quotient a.pair b.pair) in
    let tail = refuse no_divisor (refused 62) fits in
    two_parts (admit a.pair (admit b.pair tail)) R.quotient h k
    (admit_two_same a.pair b.pair tail (tested_same no_divisor 61 fits (fitting_same (R.quotient a.pair b.pair))))
    (λ z. O.quotient_ordered (above_0 b.pair.low (refuse_passed no_divisor 61 fits (past_admit b.pair tail (past_admit a.pair (admit b.pair tail) z))).0))

over_agrees : {a : Figures} {p : Pair} → Agrees a p → (n : ℕ) → Agrees (A.over a n) (R.over p n)
unfolding A.over A.over_of
over_agrees {a} h n =
    let no_divisor : Bool = eqb n 0 in
    let fits = fitting (R.over a.pair n) in
    let tail = refuse no_divisor (refused 62) fits in
    one_part (admit a.pair tail) (λ p. R.over p n) h
    (admit_same a.pair tail (tested_same no_divisor 61 fits (fitting_same (R.over a.pair n))))
    (λ z o. O.over_ordered o n (above_0 n (refuse_passed no_divisor 61 fits (past_admit a.pair tail z)).0))

-- The cold pair on both sides, or x.
unless_cold_agrees : {a x : Figures} {p q : Pair} → Agrees a p → Agrees x q → Agrees (A.unless_cold a x) (R.unless_cold p q)
unfolding A.unless_cold R.unless_cold
unless_cold_agrees {a} {x} {p} {q} h k =
    let cold : Agrees (given cold_pair) cold_pair = record { same = λ _. refl; ordered = λ _. record { ends = zero-le } } in
    let chosen = choice_kept Agrees (is_cold a.pair) cold k in
    one_part _ (λ y. R.unless_cold y q) h chosen.same (λ z _. subst Ordered (chosen.same z) (chosen.ordered z))

-- An operation that tests 61 and 64 and nothing else, on one pair and on two.
one_agrees : {a : Figures} {p : Pair} (op : Pair → Pair) → (Ordered a.pair → Ordered (op a.pair)) → Agrees a p → Agrees (after a (admit a.pair (fitting (op a.pair)))) (op p)
one_agrees {a} op ord h = one_part (admit a.pair (fitting (op a.pair))) op h (admit_same a.pair _ (fitting_same (op a.pair))) (λ z. ord)

two_agree : {a b : Figures} {p q : Pair} (op : Pair → Pair → Pair) → (Ordered a.pair → Ordered b.pair → Ordered (op a.pair b.pair)) → Agrees a p → Agrees b q → Agrees (after a (after b (admit a.pair (admit b.pair (fitting (op a.pair b.pair)))))) (op p q)
two_agree {a} {b} op ord h k =
    two_parts (admit a.pair (admit b.pair (fitting (op a.pair b.pair)))) op h k
    (admit_two_same a.pair b.pair _ (fitting_same (op a.pair b.pair))) (λ z. ord)

pub agreement : Kept answers rounded Agrees
unfolding A.constant A.sum A.sum_of A.difference A.difference_of A.product A.product_of A.times A.times_of A.root A.root_of A.fifth_root A.fifth_root_of A.high_only A.high_only_of A.at_most_one A.at_most_one_of A.at_most_a_third A.at_most_a_third_of A.below_256 A.below_256_of
agreement =
    record {
      same_terms = refl;
      constant = λ n d. record { same = fitting_same (R.constant n d); ordered = λ z. rw (fitting_same (R.constant n d) z) (O.constant_ordered n d) };
      sum = λ h k. two_agree R.sum O.sum_ordered h k;
      difference = λ h k. two_agree R.difference O.difference_ordered h k;
      product = λ h k. two_agree R.product O.product_ordered h k;
      quotient = quotient_agrees;
      times = λ h n. one_agrees (λ p. R.times p n) (λ o. O.times_ordered o n) h;
      over = over_agrees;
      root = λ h. one_agrees R.root O.root_ordered h;
      fifth_root = λ h. one_agrees R.fifth_root O.fifth_root_ordered h;
      high_only = λ h. one_part _ R.high_only h (fitting_same _) (λ z o. O.high_only_ordered _);
      at_most_one = λ {a} {b} h. let_through (ltb U a.pair.high) h;
      at_most_a_third = λ {a} {b} h. let_through (ltb (R.up (U * U) (3 * U)) a.pair.high) h;
      below_256 = λ {a} {b} h. let_through (leb (256 * U) a.pair.high) h;
      unless_cold = unless_cold_agrees;
    }
