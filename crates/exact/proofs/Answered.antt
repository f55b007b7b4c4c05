-- Demand 3 of the code: what `flux` answers for an enquiry, when it answers figures, has the properties of demand 3.
-- From the contract of `flux`, which says that what it shows is the definition. Assumes nothing.
use mathlib.Core.Path.{◌≡◌, sym, ap}
use mathlib.Core.Bool.{true}
use Prim.Native.Nat.{ℕ, ◌+◌, ◌≤◌}
use Rattle.std.specs.Prelude.{Result, Ok}
use Rattle.chain.specs.declared.enquiry.Enquiry.{Enquiry}
use Rattle.chain.specs.declared.enquiry.Printed.{Printed}
use Rattle.chain.specs.declared.enquiry.Turned.{Turned}
use Rattle.chain.specs.Flux.{Shown, shown, flux_of}
use Rattle.exact.specs.Fraction.{◌⊑◌, whole}
use Rattle.exact.specs.Demand.{exact_bracket}
use Rattle.exact.proofs.Demand3.{demand_3}

pub record Answers (n : ℕ) (E : Enquiry) (p : Printed) : Type 0 where
  pub divisors_above_0 : (exact_bracket n E).defined ≡ true
  pub low_below : whole p.low ⊑ (exact_bracket n E).high
  pub high_above : (exact_bracket n E).low ⊑ whole p.high
  pub narrow : p.high ≤ p.low + 20

-- r is what `flux` returns for E: its contract is the premise
pub answered : (E : Enquiry) (r : Result Printed Turned) (p : Printed) → shown r ≡ flux_of E → r ≡ Ok p → (n : ℕ) → 8 ≤ n → Answers n E p
answered E r p contract is n deep =
    let same : shown (Ok p) ≡ flux_of E = rw is at contract in
    let h = demand_3 E (ap (λ (s : Shown). s.state) (sym same)) n deep in
    let low : p.low ≡ (flux_of E).low = ap (λ (s : Shown). s.low) same in
    let high : p.high ≡ (flux_of E).high = ap (λ (s : Shown). s.high) same in
    record {
      divisors_above_0 = h.divisors_above_0;
      low_below = rw low h.low_below;
      high_above = rw high h.high_above;
      narrow = rw (low, high) h.narrow;
    }
