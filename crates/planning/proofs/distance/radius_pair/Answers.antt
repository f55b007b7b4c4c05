-- `radius_pair` meets its contract: step 1's operations, one by one, none of which refuses.
-- Assumes nothing.
use mathlib.Core.Path.{◌≡◌, ap, ◌∙◌}
use Rattle.pairs.specs.declared.answer.Pair.{Pair}
use Rattle.pairs.specs.Figures.{Figures, given}
use Rattle.planning.proofs.Radius.{refused_not_given, is_ok, square_is, across_is, half_is}
use Rattle.planning.proofs.distance.radius_pair.Goals as goal

same_pair : {p q : Pair} → given p ≡ given q → p ≡ q
same_pair e = ap (λ (f : Figures). f.pair) e

pub returns-in_err-square : goal.returns-in_err-square
returns-in_err-square c =
    absurd (refused_not_given _ _ (c.in_err-square.ensures ∙ square_is c.args.area c.requires.0 c.requires.1 c.from-four_areas.ensures c.pi.ensures))

pub returns-in_err-root : goal.returns-in_err-root
returns-in_err-root c =
    let square = same_pair (c.in_ok-square.ensures ∙ square_is c.args.area c.requires.0 c.requires.1 c.from-four_areas.ensures c.pi.ensures) in
    absurd (refused_not_given _ _ (c.in_err-root.ensures ∙ across_is c.args.area c.requires.0 c.requires.1 square))

pub returns : goal.returns
returns c =
    let square = same_pair (c.in_ok-square.ensures ∙ square_is c.args.area c.requires.0 c.requires.1 c.from-four_areas.ensures c.pi.ensures) in
    let across = same_pair (c.in_ok-root.ensures ∙ across_is c.args.area c.requires.0 c.requires.1 square) in
    is_ok c.over.result _ (c.over.ensures ∙ half_is c.args.area c.requires.0 c.requires.1 across)
