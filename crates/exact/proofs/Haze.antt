-- At 1,000 the exact q is E·F: each end the same fraction, written with larger numbers. By cross products. Assumes nothing.
use mathlib.Core.Path.{◌≡◌, sym}
use Prim.Native.Nat.{ℕ, zero, ◌*◌, ◌<◌}
use native.Mathlib.Nat.{mul_right_comm, mul_assoc, mul-one, mul-pos, le_of_eq, suc-pred-eq_of_pos}
use lib.Dec.{lit<}
use Rattle.chain.specs.declared.enquiry.Enquiry.{Enquiry}
use Rattle.chain.specs.Chain.{transmitted, clear_flux, radiant_flux}
use Rattle.exact.specs.Fraction.{Fraction, ◌⊑◌, whole, ◌⊗◌, ◌⊘◌}
use Rattle.exact.specs.Depth.{exact, times, over}

-- Each at most the other.
pub record Same (x y : Fraction) : Type 0 where
  pub below : x ⊑ y
  pub above : y ⊑ x

cancelled : (k : ℕ) → zero < k → (x : Fraction) → Same (x ⊗ whole k ⊘ whole k) x
unfolding whole ◌⊗◌ ◌⊘◌
cancelled k above x =
    let n = x.num in
    let d = x.den in
    let divisor : zero < d * 1 * k = mul-pos (mul-pos x.den_above_0 (lit< tt)) above in
    let same : n * k * 1 * d ≡ n * (d * 1 * k) = simp (mul-one, mul_right_comm n k d, mul_assoc n d k) in
    record {
      below = record { cross = rw (suc-pred-eq_of_pos divisor) (le_of_eq same) };
      above = record { cross = rw (suc-pred-eq_of_pos divisor) (le_of_eq (sym same)) };
    }

pub exact_clear :
    (n : ℕ) (E : Enquiry) → E.transmissivity ≡ 1000
    → Same (radiant_flux (exact n) E).low (clear_flux (exact n) E).low × Same (radiant_flux (exact n) E).high (clear_flux (exact n) E).high
unfolding radiant_flux transmitted times over
exact_clear n E at_1000 = rw at_1000 (cancelled 1000 (lit< tt) _, cancelled 1000 (lit< tt) _)
