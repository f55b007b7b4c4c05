-- The first number that applies, whatever the tests: where it stands in the list, it is told; where none applies, what follows is
-- given. By induction over the list of tests. Assumes nothing.
use mathlib.Core.Path.{◌≡◌, refl, ap}
use mathlib.Core.Bool.{Bool, true, false, ◌&&◌}
use mathlib.Core.List.{List, [], ◌∷◌, ◌++◌}
use Prim.Native.Nat.{ℕ, zero, suc}
use lib.Dec.{T}
use lib.Ieee.Fits.{and_l, and_r}
use Rattle.pairs.specs.Figures.{refuse}
use Rattle.pairs.proofs.Tests.{past_test, same_after_test}
use Rattle.chain.specs.Tests.{Test, first_that_applies}
use Rattle.chain.specs.Private.{EachTest, NoneApplies}

-- What holds of each test that passes a check, where each does.
abbrev pub every_test : (Test → Bool) → List Test → Bool
every_test passes [] = true
every_test passes (t ∷ ts) = passes t && every_test passes ts

pub by_every_test : (P : Test → Type 0) (passes : Test → Bool) → ((t : Test) → T (passes t) → P t) → (ts : List Test) → T (every_test passes ts) → EachTest P ts
by_every_test P passes f [] h = tt
by_every_test P passes f (t ∷ ts) h =
    (f t (and_l (passes t) (every_test passes ts) h), by_every_test P passes f ts (and_r (passes t) (every_test passes ts) h))

-- Of two lists one after the other.
pub none_of_first : (xs ys : List Test) → NoneApplies (xs ++ ys) → NoneApplies xs
none_of_first [] ys n = tt
none_of_first (t ∷ xs) ys n = (n.0, none_of_first xs ys n.1)

pub none_of_last : (xs ys : List Test) → NoneApplies (xs ++ ys) → NoneApplies ys
none_of_last [] ys n = n
none_of_last (t ∷ xs) ys n = none_of_last xs ys n.1

pub none_of_both : (xs ys : List Test) → NoneApplies xs → NoneApplies ys → NoneApplies (xs ++ ys)
none_of_both [] ys n m = m
none_of_both (t ∷ xs) ys n m = (n.0, none_of_both xs ys n.1 m)

-- The test at place k, counted from 0, is the first that applies, and its number is n.
abbrev pub FirstAt : ℕ → List Test → ℕ → Type 0
FirstAt k [] n = ⊥
FirstAt zero (t ∷ ts) n = (t.applies ≡ true) × (t.number ≡ n)
FirstAt (suc k) (t ∷ ts) n = (t.applies ≡ false) × FirstAt k ts n

module _ {R : Type 0} (refused : ℕ → R) where
  pub told : (k : ℕ) (ts : List Test) (n : ℕ) (rest : R) → FirstAt k ts n → first_that_applies refused ts rest ≡ refused n
  told k [] n rest h = absurd h
  told zero (t ∷ ts) n rest h = rw h.0 (ap refused h.1)
  told (suc k) (t ∷ ts) n rest h = rw h.0 (told k ts n rest h.1)

  -- Two lists one after the other.
  pub in_two : (xs ys : List Test) (rest : R) → first_that_applies refused (xs ++ ys) rest ≡ first_that_applies refused xs (first_that_applies refused ys rest)
  in_two [] ys rest = refl
  in_two (t ∷ xs) ys rest = ap (refuse t.applies (refused t.number)) (in_two xs ys rest)

  pub none_told : (ts : List Test) (rest : R) → NoneApplies ts → first_that_applies refused ts rest ≡ rest
  none_told [] rest n = refl
  none_told (t ∷ ts) rest n = rw n.0 (none_told ts rest n.1)

  -- Where something holds that holds of no refusal of a test that applies, none applies, and it holds of what follows.
  pub past_tests :
      (P : R → Type 0) (ts : List Test) (rest : R) → EachTest (λ t. t.applies ≡ true → P (refused t.number) → ⊥) ts
      → P (first_that_applies refused ts rest) → NoneApplies ts × P rest
  past_tests P [] rest other h = (tt, h)
  past_tests P (t ∷ ts) rest other h =
      let past = past_test P t.applies other.0 h in
      let later = past_tests P ts rest other.1 past.1 in
      ((past.0, later.0), later.1)

  -- What relates each refusal to itself relates two results after the same tests, if it does where none applies.
  pub same_after_tests :
      (S : R → R → Type 0) → ((n : ℕ) → S (refused n) (refused n)) → (ts : List Test) (x y : R) → (NoneApplies ts → S x y)
      → S (first_that_applies refused ts x) (first_that_applies refused ts y)
  same_after_tests S r [] x y h = h tt
  same_after_tests S r (t ∷ ts) x y h = same_after_test S t.applies (r t.number) (λ e. same_after_tests S r ts x y (λ n. h (e, n)))
