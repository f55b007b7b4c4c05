-- The claims hold: none of the tests before 16 applies, so by a law of `chain` no operation refuses, and then no stage is too large.
-- Assumes nothing.
use mathlib.Core.Path.{◌≡◌, refl, ap, ap₂}
use mathlib.Core.Logic.{inl, inr}
use native.Mathlib.Omega.{arith}
use Rattle.pairs.specs.declared.answer.Pair.{Pair}
use Rattle.pairs.specs.Rounded as R
use Rattle.pairs.specs.Rounded.{rounded}
use Rattle.pairs.specs.Figures.{Figures}
use Rattle.pairs.specs.Answers.{answers}
use Rattle.pairs.proofs.Kept.{Kept}
use Rattle.chain.specs.declared.enquiry.Enquiry.{Enquiry}
use Rattle.chain.specs.Chain.{radiant_flux}
use Rattle.chain.specs.Flux.{limits}
use Rattle.chain.specs.Private.{Limited}
use Rattle.chain.proofs.Steps.{radiant_flux_kept}
use Rattle.chain.proofs.Limits.{past_limits}
use Rattle.chain.proofs.Unrefused.{unrefused}
use Rattle.stages.specs.Stages as S
use Rattle.stages.specs.Stages.{Stage, stages}
use Rattle.stages.specs.Claims.{InsideLimits, Claims}
use Rattle.stages.proofs.Below.{below}

-- Neither 0 nor 16 is a number of the limits.
limits_passed : (E : Enquiry) → InsideLimits E → Limited E
unfolding limits
limits_passed E (inl e) = past_limits E _ tt e
limits_passed E (inr e) = past_limits E _ tt e

not_refused : (E : Enquiry) → InsideLimits E → (radiant_flux answers E).number ≡ 0
not_refused E s = ap (λ (f : Figures). f.number) (unrefused E (limits_passed E s)).flux_given

-- A stage has the pair that `rounded` has.
abbrev SamePair : Stage → Pair → Type 0
SamePair s p = s.pair ≡ p

same_pairs : Kept stages rounded SamePair
unfolding S.unless_cold
same_pairs =
    record {
      same_terms = refl;
      constant = λ n d. refl;
      sum = ap₂ R.sum;
      difference = ap₂ R.difference;
      product = ap₂ R.product;
      quotient = ap₂ R.quotient;
      times = λ h n. ap (λ p. R.times p n) h;
      over = λ h n. ap (λ p. R.over p n) h;
      root = ap R.root;
      fifth_root = ap R.fifth_root;
      high_only = ap R.high_only;
      at_most_one = λ h. h;
      at_most_a_third = λ h. h;
      below_256 = λ h. h;
      unless_cold = ap₂ R.unless_cold;
    }

pub claims : Claims
claims =
    record {
      no_stage_too_large = λ E s. omega (arith, (radiant_flux_kept below E).below (not_refused E s));
      no_operation_refused = not_refused;
      no_figure_too_large = λ E s. omega (arith, (unrefused E (limits_passed E s)).high);
      same_chain = radiant_flux_kept same_pairs;
    }
