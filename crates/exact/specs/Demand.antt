-- Demand 3: what is shown for an accepted enquiry, set against the exact chain at every depth from 8 on.
use Rattle.std.specs.Prelude.{ℕ, ◌+◌, ◌≤◌, ◌≡◌, true}
use Rattle.chain.specs.declared.enquiry.Enquiry.{Enquiry}
use Rattle.chain.specs.Chain.{radiant_flux}
use Rattle.chain.specs.Flux.{flux_of}
use Rattle.exact.specs.Fraction.{◌⊑◌, whole}
use Rattle.exact.specs.Depth.{Bracket, exact, times}

-- "An enquiry is accepted exactly when no number of this group applies to it."
abbrev pub Accepted : Enquiry → Type 0
Accepted E = (flux_of E).state ≡ 0

-- "The exact bracket at depth n is 1000·q, both ends fractions."
unfoldable pub exact_bracket : ℕ → Enquiry → Bracket
exact_bracket n E = times (radiant_flux (exact n) E) 1000

-- What is asked of an enquiry at depth n. The low and high shown are "in whole W/m²".
pub record Holds (n : ℕ) (E : Enquiry) : Type 0 where
  -- "the low end of every divisor is above 0"
  pub divisors_above_0 : (exact_bracket n E).defined ≡ true
  pub low_below : whole (flux_of E).low ⊑ (exact_bracket n E).high
  pub high_above : (exact_bracket n E).low ⊑ whole (flux_of E).high
  pub narrow : (flux_of E).high ≤ (flux_of E).low + 20

-- "It is a single claim about all accepted enquiries and all these depths."
abbrev pub Demand3 : Type 0
Demand3 = (E : Enquiry) → Accepted E → (n : ℕ) → 8 ≤ n → Holds n E
