-- `asked` meets its contract: no flux is refused inside the span.
-- Assumes nothing.
use mathlib.Core.Path.{ap, ◌∙◌}
use Rattle.chain.specs.Flux.{flux_of}
use Rattle.planning.proofs.AskedThere.{flux_there}
use Rattle.planning.proofs.free_place.Walk.asked.Goals as goal

pub unwrap-flux-requires : goal.unwrap-flux-requires
unwrap-flux-requires c =
    flux_there c.args.self.scenario c.args.rim _ c.args.self.accepted c.requires.0 (c.flux.ensures ∙ ap flux_of c.at_distance.ensures)
