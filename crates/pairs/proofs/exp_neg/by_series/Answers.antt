-- `by_series` meets its contract: the series, of which no step is refused, and eight squares.
-- The loop holds what is left of the squares. Assumes nothing.
use mathlib.Core.Path.{◌≡◌, refl, sym, ap, ◌∙◌}
use Prim.Native.Nat.{ℕ, zero, suc, ◌+◌, ◌*◌, ◌-◌, ◌≤◌, ◌<◌}
use native.Mathlib.Omega.{arith}
use Rattle.pairs.specs.declared.answer.Pair.{Pair}
use Rattle.pairs.specs.Rounded as R
use Rattle.pairs.specs.Rounded.{U, rounded, ends, up}
use Rattle.pairs.specs.Figures.{Figures, given, refused}
use Rattle.pairs.specs.Answers as A
use Rattle.pairs.specs.Answers.{answers}
use Rattle.pairs.specs.Series.{alternating, exp_term, squared, exp_series}
use Rattle.pairs.proofs.Lifted.{handed_on}
use Rattle.pairs.proofs.Turned.{over_turned}
use Rattle.pairs.proofs.Terms.{Within, exp_given}
use Rattle.pairs.proofs.Turns.{exp_alternating}
use Rattle.pairs.proofs.exp_neg.by_series.Goals as goal

-- y over 256
module _ (y : Pair) (o : y.low ≤ y.high) (small : y.high < 256 * U) where
  within : Within U (R.over y 256)
  unfolding R.over R.down R.up
  within = omega arith

  over_256 : A.over (given y) 256 ≡ given (R.over y 256)
  unfolding A.over
  over_256 = sym ((over_turned y 256).is o refl (omega (arith, within.high)))

  all_squares : (r : Pair) → r ≡ alternating rounded (exp_term rounded (R.over y 256)) → squared answers 8 (given r) ≡ exp_series answers (given y)
  unfolding exp_series
  all_squares r e = rw over_256 (ap (squared answers 8) (ap given e ∙ sym (exp_given (R.over y 256) within)))

-- k squares are made, and one more
again : (k : ℕ) (x y z : Figures) → k < 8 → y ≡ A.product x x → squared answers (8 - k) x ≡ z → squared answers (8 - (k + 1)) y ≡ z
unfolding squared
again k x y z h e s = let d : 8 - k ≡ suc (8 - (k + 1)) = omega arith in rw e (rw d at s)

finished : (k : ℕ) (x z : Figures) → k ≡ 8 → squared answers (8 - k) x ≡ z → x ≡ z
unfolding squared
finished k x z e s = rw e at s

pub invariant_of-alternating : goal.invariant_of-alternating
invariant_of-alternating c =
    let w = within c.args.y (omega arith) (omega arith) in
    record { term_small = omega arith; z_small = rw c.divided_by.ensures.is (w.ordered, w.high) }

pub loop-preserved : goal.loop-preserved
unfolding A.product
loop-preserved c = (omega arith, again _ _ _ _ (omega arith) c.in_ok-power.ensures c.loop.invariant.1)

-- a refusal stays through all squares that are left
still_refused : (k n : ℕ) → squared answers k (refused (suc n)) ≡ refused (suc n)
unfolding squared A.product
still_refused zero n = refl
still_refused (suc k) n = still_refused k n

pub returns-in_err-power : goal.returns-in_err-power
unfolding A.product
returns-in_err-power c =
    let k : ℕ = 8 - (c.loop.counter + 1) in
    handed_on (squared answers k) (still_refused k) _ _ _ c.from_residual.ensures.1 c.in_err-power.ensures
    ∙ again _ _ _ _ (omega arith) refl c.loop.invariant.1
    ∙ all_squares c.args.y (omega arith) (omega arith) _ (c.alternating-power.ensures ∙ exp_alternating _ _ c.divided_by.ensures.is)

pub returns : goal.returns
returns c = finished _ _ _ (omega arith) c.loop.invariant.1
    ∙ all_squares c.args.y (omega arith) (omega arith) _ (c.alternating-power.ensures ∙ exp_alternating _ _ c.divided_by.ensures.is)
