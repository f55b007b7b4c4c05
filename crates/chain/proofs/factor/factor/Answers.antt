-- `factor` meets its contract: inside the limits no operation refuses.
-- Assumes nothing.
use mathlib.Core.Path.{◌≡◌, sym, ap, ◌∙◌}
use mathlib.Core.Bool.{true}
use Prim.Native.Nat.{ℕ}
use Rattle.pairs.specs.declared.answer.Pair.{Pair}
use Rattle.pairs.specs.Rounded.{ends}
use Rattle.pairs.specs.Figures.{Figures, given, refused}
use Rattle.pairs.specs.Answers.{answers}
use Rattle.chain.specs.Chain as chain
use Rattle.chain.specs.Factor.{factor_tests, factor_of}
use Rattle.chain.specs.Private.{face_number, NoneApplies}
use Rattle.std.proofs.Common.{rules}
use Rattle.chain.proofs.FirstThatApplies.{none_told}
use Rattle.chain.proofs.Limits.{between}
use Rattle.chain.proofs.InLimits.{face_inside}
use Rattle.chain.proofs.FactorAlone.{factor_not_refused}
use Rattle.chain.proofs.factor.factor.Goals as goal

-- where no test applies no operation refuses, and the chain's factor is given, as the definition has it
worked :
    (l e face : ℕ) → NoneApplies (factor_tests l e face) → (a x y z : Figures) (n : ℕ) (p : Pair) → x ≡ given (ends l l) → y ≡ given (ends 0 0) → z ≡ given (ends e e)
    → n ≡ face → a ≡ chain.factor_at answers true n x y z → p ≡ a.pair → given p ≡ factor_of l e face
unfolding factor_of factor_tests
worked l e face none a x y z n p f g m q i j =
    let l_in = between 0 40_000_000_000_000 l none.0 in
    let e_in = between 40_000_000_000 400_000_000_000_000 e none.1.0 in
    let same = i ∙ (λ j. chain.factor_at answers true (q j) (f j) (g j) (m j)) ∙ factor_not_refused face l e l_in.high e_in.low e_in.high in
    ap given (j ∙ ap (λ (x : Figures). x.pair) same) ∙ sym (none_told refused (factor_tests l e face) _ none)

pub returns : goal.returns
unfolding factor_tests
returns c =
    let face : face_number c.in_ok-face.face ≡ c.args.face = search rules in
    worked _ _ _ (sym c.if-outside.ensures, (sym c.if-outside-2.ensures, (face_inside _ face, tt)))
    _ _ _ _ _ _ c.exact.ensures c.exact-2.ensures c.exact-3.ensures face c.factor_at-factor.ensures c.pair.ensures
