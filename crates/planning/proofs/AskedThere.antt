-- What was asked at a place: the pair there, and whether the place is free. By the fields of what is shown. Assumes nothing.
use mathlib.Core.Path.{◌≡◌, refl, sym, ap, ◌∙◌}
use Prim.Native.Nat.{ℕ, ◌≤◌, ◌<◌}
use native.Mathlib.Omega.{arith}
use lib.Dec.{T}
use Rattle.std.specs.Prelude.{Result, Ok, Err, IsOk}
use Rattle.chain.specs.declared.enquiry.Printed.{Printed}
use Rattle.chain.specs.declared.enquiry.Turned.{Turned}
use Rattle.chain.specs.Flux as flux
use Rattle.chain.specs.Flux.{flux_of}
use Rattle.chain.proofs.Limits.{number_above_0}
use Rattle.planning.specs.declared.scenario.Scenario.{Scenario}
use Rattle.planning.specs.declared.grid.Grid.{Grid}
use Rattle.planning.specs.declared.distance.RimMillimetres.{RimMillimetres}
use Rattle.planning.specs.declared.free_place.FluxAtRim.{FluxAtRim}
use Rattle.planning.specs.Scenario.{at_distance}
use Rattle.planning.specs.Grid.{rim_distance}
use Rattle.planning.specs.FreePlace.{flux_from, own_refusal, is_free, shown_at}
use Rattle.planning.specs.Private.{InSpan, Asked}
use Rattle.planning.proofs.PlaceOutcomes.{own_state}
use Rattle.planning.proofs.Walk.{NotFree, considered, keeps, free}

-- No refusal has the number 0.
pub accepted_is : (r : Result Printed Turned) → (flux.shown r).state ≡ 0 → IsOk r
accepted_is (Ok p) z = refl
accepted_is (Err why) z = absurd (omega (arith, number_above_0 why, z))

-- Where the flux is not refused of its own, it is accepted at each distance of the span.
pub flux_there : (S : Scenario) (rim : RimMillimetres) (r : Result Printed Turned) → own_refusal S ≡ 0 → InSpan rim → flux.shown r ≡ flux_from S rim → IsOk r
flux_there S rim r z i e = accepted_is r (ap (λ (s : flux.Shown). s.state) e ∙ sym (own_state S rim.0 i.least i.most) ∙ z)

module _ (S : Scenario) (limit : ℕ) (G : Grid) (row place : ℕ) {rim : RimMillimetres} (here : rim.0 ≡ (rim_distance S G row place).0) where
  pub passed_over : (InSpan rim → ⊥) → NotFree S limit G row place
  passed_over n t = let c = considered S limit G row place t in n (record { least = omega (arith, c.least); most = omega (arith, c.most) })

  module _ (p : FluxAtRim) (there : p.rim ≡ rim) (a : Asked S p) where
    flux_is : flux.shown (Ok p.flux) ≡ flux_from S (rim_distance S G row place)
    flux_is = a ∙ ap (λ (d : ℕ). flux_of (at_distance S d)) (ap (λ (x : RimMillimetres). x.0) there ∙ here)

    high_is : p.flux.high ≡ (flux_from S (rim_distance S G row place)).high
    high_is = ap (λ (s : flux.Shown). s.high) flux_is

    pub pair_is : record { state = 0; row = row; place = place; low = p.flux.low; high = p.flux.high } ≡ shown_at S G row place
    pair_is = ap (λ (s : flux.Shown). record { state = 0; row = row; place = place; low = s.low; high = s.high }) flux_is

    pub free_there : InSpan rim → p.flux.high ≤ limit → T (is_free S limit G row place)
    free_there i k =
        free S limit G row place (record { least = omega (arith, i.least); most = omega (arith, i.most) }) (omega (arith, high_is))

    pub over_there : limit < p.flux.high → NotFree S limit G row place
    over_there k t = omega (arith, high_is, keeps S limit G row place t)
