-- An enquiry that no test turns back has its numbers inside the limits.
-- Assumes nothing.
use mathlib.Core.Path.{sym, ap}
use mathlib.Core.Bool.{not}
use Rattle.chain.proofs.Limits.{fuel}
use Rattle.chain.proofs.allowed.AllowedTryFromEnquiry.try_from.Goals as goal

pub invariant_of-result-clause-rate : goal.invariant_of-result-clause-rate
invariant_of-result-clause-rate c =
    let f = (fuel c.args.e (ap not (sym c.if-not-fuel_within.ensures))).rate in (f.low, f.high)

pub invariant_of-result-clause-absorption : goal.invariant_of-result-clause-absorption
invariant_of-result-clause-absorption c =
    let f = (fuel c.args.e (ap not (sym c.if-not-fuel_within.ensures))).absorption in (f.low, f.high)

pub invariant_of-result-clause-heat : goal.invariant_of-result-clause-heat
invariant_of-result-clause-heat c =
    let f = (fuel c.args.e (ap not (sym c.if-not-fuel_within.ensures))).heat in (f.low, f.high)
