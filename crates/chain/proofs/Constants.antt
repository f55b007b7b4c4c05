-- A number of the enquiry as an exact pair, where it fits. Assumes nothing.
use mathlib.Core.Path.{◌≡◌, sym}
use Prim.Native.Nat.{ℕ, ◌*◌, ◌/◌, ◌^◌, ◌<◌}
use native.Mathlib.Omega.{arith}
use Rattle.pairs.specs.Rounded as R
use Rattle.pairs.specs.Rounded.{U, ends}
use Rattle.pairs.specs.Figures.{given}
use Rattle.pairs.specs.Answers as A
use Rattle.pairs.proofs.Agreement.{fitting_given}

-- n/d is k trillionths.
pub exact_pair : (n d k : ℕ) → n * U / d ≡ k → k < 2 ^ 64 → given (ends k k) ≡ A.constant n d
unfolding A.constant R.constant
exact_pair n d k e small = rw e (sym (fitting_given (ends k k) small))

pub thousandths : (n : ℕ) → n * 1_000_000_000 < 2 ^ 64 → given (ends (n * 1_000_000_000) (n * 1_000_000_000)) ≡ A.constant n 1000
thousandths n small = exact_pair n 1000 (n * 1_000_000_000) (omega arith) small
