-- Request 7: the stand-off of a scenario from a limit in W/m², on all numbers.
use Rattle.std.specs.Prelude.{ℕ, zero, suc, ◌*◌, ◌-◌, Bool, ◌&&◌, leb, ltb, Result, Ok, Err}
use Rattle.pairs.specs.Figures.{refuse}
use Rattle.pairs.specs.Search.{least}
use Rattle.chain.specs.Flux as flux
use Rattle.chain.specs.Flux.{flux_of}
use Rattle.planning.specs.declared.scenario.Scenario.{Scenario}
use Rattle.planning.specs.declared.stand_off.PairAt.{PairAt}
use Rattle.planning.specs.declared.stand_off.NoStandOff.{NoStandOff}
use Rattle.planning.specs.declared.stand_off.NoStandOff.TheVariants.{Flux, OverLimit}
use Rattle.planning.specs.Scenario.{at_distance}

-- State, distance in decimetres, low and high as this paper shows them.
pub record Shown : Type 0 where
  pub state : ℕ
  pub decimetres : ℕ
  pub low : ℕ
  pub high : ℕ

-- "With any refusal the distance and the pair are 0."
abbrev pub refused : ℕ → Shown
refused n = record { state = n; decimetres = 0; low = 0; high = 0 }

-- The number of a refusal: the flux's own, or 41.
abbrev pub number_of : NoStandOff → ℕ
number_of (Flux why) = flux.number_of why
number_of OverLimit = 41

-- This paper's number, distance and pair for each answer and refusal.
abbrev pub shown : Result PairAt NoStandOff → Shown
shown (Ok p) = record { state = 0; decimetres = p.decimetres; low = p.low; high = p.high }
shown (Err why) = refused (number_of why)

-- What the flux shows at a rim distance "in whole decimetres".
abbrev pub flux_at : Scenario → ℕ → flux.Shown
flux_at S d = flux_of (at_distance S (100 * d))

-- "a high figure at most the limit"; so has a refused enquiry, which shows 0, but from 10 to 2,000 decimetres none is met (Claims)
unfoldable pub keeps : Scenario → ℕ → ℕ → Bool
keeps S limit d = leb (flux_at S d).high limit

-- Whether a number and the n after it pass.
unfoldable pub every : (ℕ → Bool) → ℕ → ℕ → Bool
every passes d zero = passes d
every passes d (suc n) = passes d && every passes (suc d) n

-- "that distance and every greater one in the span has a high figure at most the limit"
unfoldable pub keeps_from : Scenario → ℕ → ℕ → Bool
keeps_from S limit d = every (keeps S limit) d (2_000 - d)

-- "in whole decimetres, 10 to 2,000, from which" they do
unfoldable pub far_enough : Scenario → ℕ → ℕ → Bool
far_enough S limit d = leb 10 d && keeps_from S limit d

-- "the smallest rim distance"; where none is far enough, not 2,000 either, 41 comes before
unfoldable pub stand_off : Scenario → ℕ → ℕ
stand_off S limit = least (far_enough S limit) 2_000

-- "Say also the pair at that distance."
abbrev pub shown_at : Scenario → ℕ → Shown
shown_at S d = record { state = 0; decimetres = d; low = (flux_at S d).low; high = (flux_at S d).high }

-- "Where an enquiry at 2,000 decimetres is refused, that refusal is returned."; "41, the high figure at 2,000 decimetres is over
-- the limit, after the flux refusals."
unfoldable pub stand_off_of : Scenario → ℕ → Shown
stand_off_of S limit =
    refuse (ltb 0 (flux_at S 2_000).state) (refused (flux_at S 2_000).state)
    (refuse (ltb limit (flux_at S 2_000).high) (refused 41)
    (shown_at S (stand_off S limit)))
