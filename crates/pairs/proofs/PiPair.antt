-- The pair of pi, computed. Assumes nothing.
use mathlib.Core.Path.{◌≡◌, refl}
use Rattle.pairs.specs.Rounded as R
use Rattle.pairs.specs.Rounded.{ends, rounded}
use Rattle.pairs.specs.Series.{plus_terms, minus_terms, alternating, power, arc_term, arc, pi}

pub pi_pair : pi rounded ≡ ends 3_141_592_653_444 3_141_592_653_752
unfolding pi arc alternating arc_term power plus_terms minus_terms R.constant R.sum R.difference R.product R.quotient R.times R.over R.high_only R.up R.down
pi_pair = refl
