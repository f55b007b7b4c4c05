-- `ln_ten` meets its contract: the definition, computed.
-- Assumes nothing.
use mathlib.Core.Path.{refl}
use Rattle.pairs.specs.Rounded as rounded
use Rattle.pairs.specs.Answers as answers
use Rattle.pairs.specs.Series as series
use Rattle.pairs.proofs.constants.ln_ten.Goals as goal

pub returns : goal.returns
unfolding series.ln_ten series.h_series series.h_of series.total series.arc_term series.power answers.constant answers.sum answers.sum_of answers.difference answers.difference_of answers.product answers.product_of answers.quotient answers.quotient_of answers.times answers.times_of answers.over answers.over_of answers.high_only answers.high_only_of answers.at_most_one answers.at_most_one_of answers.at_most_a_third answers.at_most_a_third_of answers.fitting rounded.constant rounded.sum rounded.difference rounded.product rounded.quotient rounded.times rounded.over rounded.high_only rounded.up rounded.down
returns c = refl
