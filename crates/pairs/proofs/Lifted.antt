-- Operations on answers: a refusal that comes in stays, and pairs go to the operation on pairs. By cases of the answer. Assumes nothing.
use mathlib.Core.Path.{◌≡◌, refl, sym}
use Prim.Native.Nat.{ℕ, suc}
use Rattle.pairs.specs.declared.answer.Pair.{Pair}
use Rattle.std.specs.Prelude.{Result, Ok, Err, IsErrAnd, true, false, eqb}
use Rattle.pairs.specs.declared.answer.Refusal.{Refusal}
use Rattle.pairs.specs.declared.answer.Refusal.TheVariants.{Disordered, ZeroDivisor, OutOfSpan, TooLarge}
use Rattle.pairs.specs.Figures.{Figures, given, refused, number_of, figures}
use Rattle.pairs.specs.Answers.{quotient_of, over_of, root_of, on_one, quotient, over, root}
use Rattle.pairs.proofs.Agreement.{after_passed}

-- A refusal stays in f, where f lets every refusal through.
pub refusal_stays : (f : Figures → Figures) → ((n : ℕ) → f (refused (suc n)) ≡ refused (suc n)) → (why : Refusal) → refused (number_of why) ≡ f (refused (number_of why))
refusal_stays f through Disordered = sym (through 60)
refusal_stays f through ZeroDivisor = sym (through 61)
refusal_stays f through OutOfSpan = sym (through 62)
refusal_stays f through TooLarge = sym (through 63)

-- What `?` hands on of a step is what f, which lets every refusal through, gives of that step.
pub handed_on :
    (f : Figures → Figures) → ((n : ℕ) → f (refused (suc n)) ≡ refused (suc n)) → (b : Result Pair Refusal) (why : Refusal) (x : Figures)
    → IsErrAnd b (λ e. e ≡ why) → refused (number_of why) ≡ x → figures b ≡ f x
handed_on f through (Ok p) why x b h = absurd b
handed_on f through (Err e) why x b h = rw (b, ← h) (refusal_stays f through why)

-- An operation on answers that is not refused was handed pairs.
abbrev pub Handed : (Pair → Figures) → Figures → Figures → Type 0
Handed f a r = (a.number ≡ 0) × (r ≡ f a.pair)

handed : (f : Pair → Figures) (a : Figures) → (on_one f a).number ≡ 0 → Handed f a (on_one f a)
handed f a z = let p = after_passed a (f a.pair) z in (p.first, p.same)

pub root_handed : (a : Figures) → (root a).number ≡ 0 → Handed root_of a (root a)
unfolding root
root_handed a = handed root_of a

pub over_handed : (a : Figures) (n : ℕ) → (over a n).number ≡ 0 → Handed (λ p. over_of p n) a (over a n)
unfolding over
over_handed a n = handed (λ p. over_of p n) a

pub quotient_given : (p q : Pair) → quotient (given p) (given q) ≡ quotient_of p q
unfolding quotient
quotient_given p q = refl

-- An answer from its number and pair.
abbrev pub result_of : Figures → Result Pair Refusal
result_of x =
    elim (eqb x.number 0) [
      | true ↦ Ok x.pair
      | false ↦ elim (eqb x.number 61) [
        | true ↦ Err Disordered
        | false ↦ elim (eqb x.number 62) [
          | true ↦ Err ZeroDivisor
          | false ↦ elim (eqb x.number 63) [ true ↦ Err OutOfSpan | false ↦ Err TooLarge ]
        ]
      ]
    ]

pub result_of_figures : (a : Result Pair Refusal) → result_of (figures a) ≡ a
result_of_figures (Ok p) = refl
result_of_figures (Err Disordered) = refl
result_of_figures (Err ZeroDivisor) = refl
result_of_figures (Err OutOfSpan) = refl
result_of_figures (Err TooLarge) = refl
