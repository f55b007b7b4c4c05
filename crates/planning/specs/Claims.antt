-- Request 7: what is claimed of the stand-off, for every scenario and every limit. "Nothing is assumed about flux falling with distance."
use Rattle.std.specs.Prelude.{ℕ, suc, ◌*◌, ◌-◌, ◌≤◌, ◌<◌, ◌≡◌}
use Rattle.chain.specs.Flux.{flux_of}
use Rattle.exact.specs.Demand.{Holds}
use Rattle.planning.specs.declared.scenario.Scenario.{Scenario}
use Rattle.planning.specs.Scenario.{at_distance}
use Rattle.planning.specs.StandOff.{Shown, flux_at, stand_off_of}

-- At d decimetres the enquiry is accepted and has "a high figure at most the limit".
pub record Kept (S : Scenario) (limit d : ℕ) : Type 0 where
  pub accepted : (flux_at S d).state ≡ 0
  pub high : (flux_at S d).high ≤ limit

-- "that distance and every greater one in the span"
abbrev pub KeptFrom : Scenario → ℕ → ℕ → Type 0
KeptFrom S limit d = (x : ℕ) → d ≤ x → x ≤ 2_000 → Kept S limit x

-- Of an answer, without the search.
pub record Answered (S : Scenario) (limit : ℕ) (a : Shown) : Type 0 where
  pub least : 10 ≤ a.decimetres
  pub most : a.decimetres ≤ 2_000
  pub beyond : KeptFrom S limit a.decimetres
  -- It is 10, or the distance before it is over the limit: so it is the smallest.
  pub before : 10 < a.decimetres → limit < (flux_at S (a.decimetres - 1)).high
  pub smallest : (d : ℕ) → 10 ≤ d → KeptFrom S limit d → a.decimetres ≤ d
  -- The pair is that of the flux, so demand 3 holds of it.
  pub low : a.low ≡ (flux_at S a.decimetres).low
  pub high : a.high ≡ (flux_at S a.decimetres).high
  pub exact : (n : ℕ) → 8 ≤ n → Holds n (at_distance S (100 * a.decimetres))

-- Refusal 41: "the high figure at 2,000 decimetres is over the limit, after the flux refusals."
pub record Over (S : Scenario) (limit : ℕ) : Type 0 where
  pub accepted : (flux_at S 2_000).state ≡ 0
  pub high : limit < (flux_at S 2_000).high

-- "With any refusal the distance and the pair are 0."
pub record Zeros (a : Shown) : Type 0 where
  pub decimetres : a.decimetres ≡ 0
  pub low : a.low ≡ 0
  pub high : a.high ≡ 0

-- All that is claimed.
pub record Claims : Type 0 where
  -- "Flux refusals do not depend on the distance inside the span."
  pub same_state :
      (S : Scenario) (a b : ℕ) → 1_000 ≤ a → a ≤ 200_000 → 1_000 ≤ b → b ≤ 200_000
      → (flux_of (at_distance S a)).state ≡ (flux_of (at_distance S b)).state
  -- "Where an enquiry at 2,000 decimetres is refused, that refusal is returned."
  pub flux_first : (S : Scenario) (limit n : ℕ) → (flux_at S 2_000).state ≡ suc n → (stand_off_of S limit).state ≡ suc n
  pub over : (S : Scenario) (limit : ℕ) → Over S limit → (stand_off_of S limit).state ≡ 41
  -- "It is given in no other case."
  pub only_over : (S : Scenario) (limit : ℕ) → (stand_off_of S limit).state ≡ 41 → Over S limit
  pub kept : (S : Scenario) (limit : ℕ) → Kept S limit 2_000 → (stand_off_of S limit).state ≡ 0
  pub answered : (S : Scenario) (limit : ℕ) → (stand_off_of S limit).state ≡ 0 → Answered S limit (stand_off_of S limit)
  pub zeros : (S : Scenario) (limit n : ℕ) → (stand_off_of S limit).state ≡ suc n → Zeros (stand_off_of S limit)
