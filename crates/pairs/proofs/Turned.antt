-- Document 01's "One pair operation", the whole of 61, 62 and 64 for each operation, in its order: which number is given when, and
-- the pair where none is. One law for operations on two pairs, one for those on one.
-- Assumes nothing.
use mathlib.Core.Path.{◌≡◌, sym, ◌∙◌}
use mathlib.Core.Bool.{Bool, true, false}
use Prim.Native.Nat.{ℕ, ◌^◌, ◌≤◌, ◌<◌}
use lib.Dec.{eqb}
use borrow.Author.Tests.{lt-ltb, le-ltb, le-leb}
use Rattle.pairs.specs.declared.answer.Pair.{Pair}
use Rattle.pairs.specs.Rounded as rounded
use Rattle.pairs.specs.Figures.{Figures, given, refused, refuse}
use Rattle.pairs.specs.Answers as answers
use Rattle.pairs.specs.Answers.{admit, fitting}
use Rattle.pairs.proofs.Agreement.{fitting_given}

pub disordered : (p : Pair) (f : Figures) → p.high < p.low → admit p f ≡ refused 61
disordered p f h = rw (lt-ltb p.high p.low h)

pub ordered : (p : Pair) (f : Figures) → p.low ≤ p.high → admit p f ≡ f
ordered p f h = rw (le-ltb p.high p.low h)

pub too_large : (p : Pair) → 2 ^ 64 ≤ p.high → fitting p ≡ refused 64
unfolding fitting
too_large p h = rw (le-leb (2 ^ 64) p.high h)

-- what f is, for an operation on p whose divisor is 0 where z says so, and whose result is r
pub record OnOne (p : Pair) (z : Bool) (r : Pair) (f : Figures) : Type 0 where
  pub is_61 : p.high < p.low → refused 61 ≡ f
  pub is_62 : p.low ≤ p.high → z ≡ true → refused 62 ≡ f
  pub is_64 : p.low ≤ p.high → z ≡ false → 2 ^ 64 ≤ r.high → refused 64 ≡ f
  pub is : p.low ≤ p.high → z ≡ false → r.high < 2 ^ 64 → given r ≡ f

one_turned : (p : Pair) (z : Bool) (r : Pair) → OnOne p z r (admit p (refuse z (refused 62) (fitting r)))
one_turned p z r =
    record {
      is_61 = λ h. sym (disordered p _ h);
      is_62 = λ h d. rw (ordered p (refuse z (refused 62) (fitting r)) h, d);
      is_64 = λ h d l. rw (ordered p (refuse z (refused 62) (fitting r)) h, d, too_large r l);
      is = λ h d l. rw (ordered p (refuse z (refused 62) (fitting r)) h, d, fitting_given r l);
    }

-- the same for an operation on p and q
pub record OnTwo (p q : Pair) (z : Bool) (r : Pair) (f : Figures) : Type 0 where
  pub is_61 : p.high < p.low → refused 61 ≡ f
  pub is_61_too : p.low ≤ p.high → q.high < q.low → refused 61 ≡ f
  pub is_62 : p.low ≤ p.high → q.low ≤ q.high → z ≡ true → refused 62 ≡ f
  pub is_64 : p.low ≤ p.high → q.low ≤ q.high → z ≡ false → 2 ^ 64 ≤ r.high → refused 64 ≡ f
  pub is : p.low ≤ p.high → q.low ≤ q.high → z ≡ false → r.high < 2 ^ 64 → given r ≡ f

two_turned : (p q : Pair) (z : Bool) (r : Pair) → OnTwo p q z r (admit p (admit q (refuse z (refused 62) (fitting r))))
two_turned p q z r =
    let one = one_turned q z r in
    let first : p.low ≤ p.high → admit p (admit q (refuse z (refused 62) (fitting r))) ≡ admit q (refuse z (refused 62) (fitting r)) = ordered p _ in
    record {
      is_61 = λ h. sym (disordered p _ h);
      is_61_too = λ h k. one.is_61 k ∙ sym (first h);
      is_62 = λ h k d. one.is_62 k d ∙ sym (first h);
      is_64 = λ h k d l. one.is_64 k d l ∙ sym (first h);
      is = λ h k d l. one.is k d l ∙ sym (first h);
    }

pub sum_turned : (p q : Pair) → OnTwo p q false (rounded.sum p q) (answers.sum_of p q)
unfolding answers.sum_of
sum_turned p q = two_turned p q false (rounded.sum p q)

pub difference_turned : (p q : Pair) → OnTwo p q false (rounded.difference p q) (answers.difference_of p q)
unfolding answers.difference_of
difference_turned p q = two_turned p q false (rounded.difference p q)

pub product_turned : (p q : Pair) → OnTwo p q false (rounded.product p q) (answers.product_of p q)
unfolding answers.product_of
product_turned p q = two_turned p q false (rounded.product p q)

pub quotient_turned : (p q : Pair) → OnTwo p q (eqb q.low 0) (rounded.quotient p q) (answers.quotient_of p q)
unfolding answers.quotient_of
quotient_turned p q = two_turned p q (eqb q.low 0) (rounded.quotient p q)

pub times_turned : (p : Pair) (n : ℕ) → OnOne p false (rounded.times p n) (answers.times_of p n)
unfolding answers.times_of
times_turned p n = one_turned p false (rounded.times p n)

pub over_turned : (p : Pair) (n : ℕ) → OnOne p (eqb n 0) (rounded.over p n) (answers.over_of p n)
unfolding answers.over_of
over_turned p n = one_turned p (eqb n 0) (rounded.over p n)

pub root_turned : (p : Pair) → OnOne p false (rounded.root p) (answers.root_of p)
unfolding answers.root_of
root_turned p = one_turned p false (rounded.root p)

pub fifth_root_turned : (p : Pair) → OnOne p false (rounded.fifth_root p) (answers.fifth_root_of p)
unfolding answers.fifth_root_of
fifth_root_turned p = one_turned p false (rounded.fifth_root p)
