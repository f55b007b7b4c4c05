-- An operation on the pairs of answers is that of the arithmetic of answers: a refusal that comes in stays. By cases. Assumes nothing.
use mathlib.Core.Path.{◌≡◌, ap, ◌∙◌}
use Prim.Native.Nat.{ℕ, suc}
use Rattle.std.specs.Prelude.{Result, Ok, Err, MatchResult}
use Rattle.pairs.specs.declared.answer.Pair.{Pair}
use Rattle.pairs.specs.declared.answer.Refusal.{Refusal}
use Rattle.pairs.specs.Figures.{Figures, figures, given, refused}
use Rattle.pairs.proofs.Lifted.{refusal_stays}

-- of one answer, by an f that lets every refusal through; P is what the call on its pair ensures
pub one_is :
    {P : Pair → Type 0} (f : Figures → Figures) → ((n : ℕ) → f (refused (suc n)) ≡ refused (suc n)) → (a r : Result Pair Refusal) (x : Figures) → figures a ≡ x
    → MatchResult a P (λ why. r ≡ Err why) → ((p : Pair) → P p → figures r ≡ f (given p)) → figures r ≡ f x
one_is f through (Ok p) r x e h each = each p h ∙ ap f e
one_is f through (Err why) r x e h each = rw h (refusal_stays f through why) ∙ ap f e

-- of two answers
pub two_is :
    {P : Pair → Pair → Type 0} (f : Figures → Figures → Figures) → ((n : ℕ) (y : Figures) → f (refused (suc n)) y ≡ refused (suc n))
    → ((p : Pair) (n : ℕ) → f (given p) (refused (suc n)) ≡ refused (suc n)) → (a b r : Result Pair Refusal) (x y : Figures) → figures a ≡ x → figures b ≡ y
    → MatchResult a (λ p. MatchResult b (P p) (λ why. r ≡ Err why)) (λ why. r ≡ Err why) → ((p q : Pair) → P p q → figures r ≡ f (given p) (given q))
    → figures r ≡ f x y
two_is f first second (Ok p) b r x y d e h each = one_is (f (given p)) (second p) b r y e h (each p) ∙ ap (λ x. f x y) d
two_is f first second (Err why) b r x y d e h each = rw h (refusal_stays (λ x. f x y) (λ n. first n y) why) ∙ ap (λ x. f x y) d
