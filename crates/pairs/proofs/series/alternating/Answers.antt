-- `alternating` meets its contract: the loop holds the sums of n terms, which change places at each term, and the terms to come are the rest.
-- Every term is at most 1 and every sum at most n, so nothing wraps. Assumes nothing.
use mathlib.Core.Path.{◌≡◌, sym, ap, ◌∙◌}
use Prim.Native.Nat.{ℕ, ◌+◌}
use native.Mathlib.Nat.{zero-add}
use native.Mathlib.Omega.{arith}
use Rattle.pairs.proofs.Turns.{next_is, alternated_none, alternated_more, alternated_all}
use Rattle.pairs.proofs.series.alternating.Goals as goal

pub loop-n-init : goal.loop-n-init
loop-n-init g c =
    (λ k. ap (g.T.Terms.to_come c.args.terms 0) (sym (zero-add k)), alternated_none (g.T.Terms.to_come c.args.terms 0))

pub plus-more-requires : goal.plus-more-requires
plus-more-requires g c = omega (arith, c.loop-n.invariant.1.sum_small, c.next.ensures.small)

pub loop-n-preserved : goal.loop-n-preserved
loop-n-preserved g c =
    let term = g.T.Terms.to_come c.args.terms 0 in
    let n = c.loop-n.n in (
      λ k. c.next.ensures.later k ∙ c.loop-n.invariant.0 (k + 1) ∙ ap term (omega arith),
      alternated_more term n _ _ _ _ c.loop-n.invariant.1 (next_is term n _ (c.loop-n.invariant.0 0) c.next.ensures.first) (omega (arith, c.next.ensures.small))
          c.plus-more.ensures,
    )

pub overflow_add-plus : goal.overflow_add-plus
overflow_add-plus g c = omega (arith, c.loop-n.invariant.1.sum_small, c.next-last.ensures.small)

pub returns : goal.returns
returns g c =
    let all : c.loop-n.n ≡ 16 = omega arith in
    alternated_all (g.T.Terms.to_come c.args.terms 0) c.loop-n.n _ _ c.next-last.result _ all c.loop-n.invariant.1 (c.loop-n.invariant.0 0)
    (c.next-last.ensures.first ∙ ap (λ (n : ℕ). g.T.Terms.to_come c.loop-n.terms n 0) (sym all)) c.less.ensures
