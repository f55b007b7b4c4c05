-- `first_free_place` meets its contract: each case of the flux at the first place has its outcome.
-- Assumes nothing.
use mathlib.Core.Path.{refl, sym, ap, subst, ◌∙◌}
use Rattle.std.proofs.lemmas.Result.{err_from_is_err_and}
use Rattle.chain.specs.Flux.{flux_of}
use Rattle.chain.proofs.Limits.{number_above_0}
use Rattle.planning.specs.FreePlace.{walked}
use Rattle.planning.specs.PlaceClaims.{InLimits}
use Rattle.planning.proofs.PlaceOutcomes.{own_is, area_within, is_42, own, walks}
use Rattle.planning.proofs.free_place.first_free_place.Goals as goal

pub returns-in_err-grid : goal.returns-in_err-grid
returns-in_err-grid c =
    let p = err_from_is_err_and c.from_residual.result c.from_residual.ensures.1 in
    rw (p.1, p.2, c.in_err-grid.ensures.0) (sym (is_42 _ _ _ c.in_err-grid.ensures.1))

pub returns-in_err-flux : goal.returns-in_err-flux
returns-in_err-flux c =
    let p = err_from_is_err_and c.from_residual-in_err-flux.result c.from_residual-in_err-flux.ensures.1 in
    let there = c.in_err-flux.ensures ∙ ap flux_of c.at_distance.ensures in
    let same = c.in_ok-grid.ensures in
    let limits = subst InLimits same c.in_ok-grid.grid.limits in
    rw (p.1, p.2) (sym (own c.args.s c.args.limit c.args.g limits _ (number_above_0 _) (own_is c.args.s c.into_span-rim.result c.into_span-rim.ensures.0 _ there)))

pub invariant_of-walk : goal.invariant_of-walk
invariant_of-walk c =
    let there = c.in_ok-flux.ensures ∙ ap flux_of c.at_distance.ensures in
    let area = area_within c.args.s c.into_span-rim.result c.into_span-rim.ensures.0 _ there refl in
    record {
      radius_of_pool = c.radius_of-radius.ensures area.low area.high;
      accepted = own_is c.args.s c.into_span-rim.result c.into_span-rim.ensures.0 _ there;
    }

pub returns : goal.returns
returns c =
    let there = c.in_ok-flux.ensures ∙ ap flux_of c.at_distance.ensures in
    let same = c.in_ok-grid.ensures in
    let limits = subst InLimits same c.in_ok-grid.grid.limits in
    c.first_free.ensures ∙ ap (walked c.args.s c.args.limit) same
    ∙ sym (walks c.args.s c.args.limit c.args.g limits (own_is c.args.s c.into_span-rim.result c.into_span-rim.ensures.0 _ there))
