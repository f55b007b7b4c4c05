-- What holds of an answer that is no refusal: then no test before it refused, and what went into it is no refusal either.
-- By the laws of pairs that say what stands behind a result with number 0. Assumes nothing.
use mathlib.Core.Path.{◌≡◌}
use mathlib.Core.Bool.{Bool}
use Prim.Native.Nat.{ℕ, suc, ◌≤◌, ◌<◌}
use native.Mathlib.Nat.{lt_of_not-le}
use native.Mathlib.Decide.{dec_le}
use lib.Dec.{T, leb, ltb, le→leb, lt→ltb}
use Rattle.pairs.specs.declared.answer.Pair.{Pair}
use Rattle.pairs.specs.Figures.{Figures, refused, refuse, after}
use Rattle.pairs.specs.Answers as answers
use Rattle.pairs.specs.Answers.{admit, fitting}
use Rattle.pairs.proofs.Agreement.{after_passed, refuse_passed, fitting_passed}

abbrev pub Passing : (Pair → Type 0) → Figures → Type 0
Passing P f = f.number ≡ 0 → P f.pair

pub after_passing : (P : Pair → Type 0) (a f : Figures) → (a.number ≡ 0 → Passing P f) → Passing P (after a f)
after_passing P a f h z = let w = after_passed a f z in rw w.same (h w.first (rw w.same at z))

pub refuse_passing : (P : Pair → Type 0) (b : Bool) (n : ℕ) (f : Figures) → ((T b → ⊥) → Passing P f) → Passing P (refuse b (refused (suc n)) f)
refuse_passing P b n f h z = let w = refuse_passed b n f z in rw w.1 (h w.0 (rw w.1 at z))

pub admit_passing : (P : Pair → Type 0) (p : Pair) (f : Figures) → Passing P f → Passing P (admit p f)
admit_passing P p f h = refuse_passing P (ltb p.high p.low) 60 f (λ _. h)

pub fitting_passing : (P : Pair → Type 0) (p : Pair) → P p → Passing P (fitting p)
fitting_passing P p h z = rw (fitting_passed p z) h

-- ---- tests that failed
pub not_above : {m n : ℕ} → (T (ltb m n) → ⊥) → n ≤ m
not_above {m} {n} h = elim (dec_le n m) [ yes p ↦ p | no p ↦ absurd (h (lt→ltb m n (lt_of_not-le p))) ]

pub not_reached : {m n : ℕ} → (T (leb m n) → ⊥) → n < m
not_reached {m} {n} h = lt_of_not-le (λ p. h (le→leb m n p))

-- ---- where a result is no refusal, what went into it is none
module _ (a b : Figures) where
  first : (f : Figures) → (after a f).number ≡ 0 → a.number ≡ 0
  first f = after_passing (λ _. a.number ≡ 0) a f (λ u _. u)

  second : (f : Figures) → (after a (after b f)).number ≡ 0 → b.number ≡ 0
  second f = after_passing (λ _. b.number ≡ 0) a (after b f) (λ _. after_passing (λ _. b.number ≡ 0) b f (λ v _. v))

  pub sum_first : (answers.sum a b).number ≡ 0 → a.number ≡ 0
  unfolding answers.sum
  sum_first = first _

  pub sum_second : (answers.sum a b).number ≡ 0 → b.number ≡ 0
  unfolding answers.sum
  sum_second = second _

  pub product_first : (answers.product a b).number ≡ 0 → a.number ≡ 0
  unfolding answers.product
  product_first = first _

  pub product_second : (answers.product a b).number ≡ 0 → b.number ≡ 0
  unfolding answers.product
  product_second = second _

pub over_first : (a : Figures) (n : ℕ) → (answers.over a n).number ≡ 0 → a.number ≡ 0
unfolding answers.over
over_first a n = first a a _

pub high_only_first : (a : Figures) → (answers.high_only a).number ≡ 0 → a.number ≡ 0
unfolding answers.high_only
high_only_first a = first a a _
