-- Request 13: "Show that no stage reaches 2^64 trillionths for inputs inside the limits, with heights, haze and method 3 included, then
-- take the refusal out."
use Rattle.std.specs.Prelude.{◌≡◌, ◌⊎◌, ◌*◌, ◌^◌, ◌<◌}
use Rattle.pairs.specs.Rounded.{rounded}
use Rattle.pairs.specs.Answers.{answers}
use Rattle.chain.specs.declared.enquiry.Enquiry.{Enquiry}
use Rattle.chain.specs.Chain.{radiant_flux}
use Rattle.chain.specs.Flux.{flux_of}
use Rattle.stages.specs.Stages.{stages}

-- None of 11 to 15, 18 and 19 refuses the enquiry: it is accepted, or its flame is too low.
abbrev pub InsideLimits : Enquiry → Type 0
InsideLimits E = ((flux_of E).state ≡ 0) ⊎ ((flux_of E).state ≡ 16)

pub record Claims : Type 0 where
  pub no_stage_too_large : (E : Enquiry) → InsideLimits E → (radiant_flux stages E).largest < 2 ^ 64
  -- No operation of the chain is refused: not by 61, 62, 63 or 64.
  pub no_operation_refused : (E : Enquiry) → InsideLimits E → (radiant_flux answers E).number ≡ 0
  -- Step 8: 1000·q does not reach it either.
  pub no_figure_too_large : (E : Enquiry) → InsideLimits E → 1000 * (radiant_flux rounded E).high < 2 ^ 64
  -- The stages are those of the chain that low and high come from.
  pub same_chain : (E : Enquiry) → (radiant_flux stages E).pair ≡ radiant_flux rounded E
