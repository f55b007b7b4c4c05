-- `total_of_terms` meets its contract: the loop holds the power n and the sum of n terms.
-- Every power is at most 1 and the sum at most n, so nothing wraps. Assumes nothing.
use mathlib.Core.Path.{◌≡◌, refl, sym, ap, ap₂, ◌∙◌}
use Prim.Native.Nat.{ℕ, suc, ◌+◌, ◌*◌}
use native.Mathlib.Numerals.{add-one}
use native.Mathlib.Omega.{arith}
use Rattle.pairs.specs.declared.answer.Pair.{Pair}
use Rattle.pairs.specs.Rounded as R
use Rattle.pairs.specs.Rounded.{U, rounded, ends}
use Rattle.pairs.specs.Series.{arc_term, power, total, h_of, h_series}
use Rattle.pairs.proofs.Terms.{Within, arc_term_within, total_within, power_within}
use Rattle.pairs.proofs.h_series.total_of_terms.Goals as goal
use Rattle.pairs.proofs.h_series.total_of_terms.Invariants.{Totalled}

none : (t p square : Pair) → p ≡ t → square ≡ R.product t t → Totalled t p square (ends 0 0) 0
unfolding total power R.constant
none t p square e f = record { power_is = e; square_is = f; sum_is = refl; sum_small = omega arith }

-- One turn: the term of the power, and the next power.
again :
    {t p square sum : Pair} {n : ℕ} (term more next same : Pair) → Within U t → Totalled t p square sum n → term ≡ R.over p (2 * n + 1)
    → more ≡ R.sum sum term → next ≡ R.product p square → same ≡ square → Totalled t next same more (n + 1)
unfolding total arc_term power
again {t} {p} {square} {sum} {n} term more next same w s e f g h =
    let sum_is : more ≡ total rounded (arc_term rounded t) (suc n) = f ∙ ap₂ R.sum s.sum_is (e ∙ ap (λ (x : Pair). R.over x (2 * n + 1)) s.power_is) in
    record {
      power_is = g ∙ ap₂ R.product s.power_is s.square_is ∙ ap (power rounded t) (sym (add-one n));
      square_is = h ∙ s.square_is;
      sum_is = sum_is ∙ ap (total rounded (arc_term rounded t)) (sym (add-one n));
      sum_small = rw (sum_is, add-one) (total_within _ (arc_term_within t w) (suc n));
    }

-- The ends from sixteen turns and the whole power.
all : {t p square sum : Pair} {n : ℕ} → Totalled t p square sum n → n ≡ 16 → ends sum.low (sum.high + p.high) ≡ h_series rounded t
unfolding h_series h_of R.sum R.high_only
all {t} {p} {square} {sum} {n} s e =
    let sum_16 : sum ≡ total rounded (arc_term rounded t) 16 = rw e at s.sum_is in
    ap₂ ends (omega (arith, ap (λ (p : Pair). p.low) sum_16))
    (ap₂ (λ (p q : Pair). p.high + q.high) sum_16 (rw e at s.power_is))

pub loop-n-init : goal.loop-n-init
loop-n-init c = none _ _ _ c.of-terms.ensures.0 c.of-terms.ensures.1

pub plus-sum-requires : goal.plus-sum-requires
plus-sum-requires c = omega (arith, c.loop-n.invariant.sum_small, c.term.ensures.small)

pub loop-n-preserved : goal.loop-n-preserved
loop-n-preserved c = again _ _ _ _ (omega arith) c.loop-n.invariant c.term.ensures.is c.plus-sum.ensures c.term.ensures.power c.term.ensures.square

pub overflow_add-result : goal.overflow_add-result
overflow_add-result c =
    let w : Within U c.args.t = omega arith in
    let small : Within U c.loop-n.terms.power = rw c.loop-n.invariant.power_is (power_within _ w c.loop-n.n) in
    omega (arith, c.loop-n.invariant.sum_small)

pub returns : goal.returns
returns c = all c.loop-n.invariant (omega arith)
