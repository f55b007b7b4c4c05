-- Document 01, "Reading a sheet" under "Turned back": what reading gives, on all bytes.
use Rattle.std.specs.Prelude.{◌≡◌, ℕ, zero, suc, ◌+◌, ◌*◌, ◌≤◌, ◌<◌, Bool, false, ◌||◌, List, length, leb, ltb, Result, Ok, Err}
use Rattle.pairs.specs.Figures.{refuse}
use Rattle.sheet.specs.declared.reading.Fault.{Fault}
use Rattle.sheet.specs.declared.reading.Fault.TheVariants.{CutShort, TooMany, LeftOver, NoFuel, NoPool}
use Rattle.sheet.specs.declared.reading.Counts.{Counts}
use Rattle.sheet.specs.Layout.{count_size, fuel_size, most_fuels, pool_size, most_pools, target_size, most_targets, fuel_index_offset, pools_start, targets_start, sheet_end, pool_at, target_at}
use Rattle.sheet.specs.Bytes.{two}

-- The state and the three counts.
pub record Outcome : Type 0 where
  pub state : ℕ
  pub fuels : ℕ
  pub pools : ℕ
  pub targets : ℕ

-- "All three counts returned are 0."
abbrev pub refused : ℕ → Outcome
refused n = record { state = n; fuels = 0; pools = 0; targets = 0 }

abbrev pub number_of : Fault → ℕ
number_of CutShort = 1
number_of TooMany = 2
number_of LeftOver = 3
number_of NoFuel = 4
number_of NoPool = 5

-- This paper's number and counts for what reading gives. "An accepted sheet returns 0 and its three counts."
abbrev pub outcome : Result Counts Fault → Outcome
outcome (Ok n) = record { state = 0; fuels = n.fuels; pools = n.pools; targets = n.targets }
outcome (Err why) = refused (number_of why)

-- The count of each section stands at its start.
unfoldable pub fuels_of : List ℕ → ℕ
fuels_of s = two s 0

unfoldable pub pools_of : List ℕ → ℕ
pools_of s = two s (pools_start (fuels_of s))

unfoldable pub targets_of : List ℕ → ℕ
targets_of s = two s (targets_start (fuels_of s) (pools_of s))

-- The fuel index of pool i, and the pool index of target i.
unfoldable pub fuel_index : List ℕ → ℕ → ℕ
fuel_index s i = two s (pool_at (fuels_of s) i + fuel_index_offset)

unfoldable pub pool_index : List ℕ → ℕ → ℕ
pool_index s i = two s (target_at (fuels_of s) (pools_of s) i)

-- Whether a test holds of some number below n.
unfoldable pub some : (ℕ → Bool) → ℕ → Bool
some test zero = false
some test (suc n) = test n || some test n

-- "4, a pool's fuel index has no fuel; 5, a target's pool index has no pool."
unfoldable pub no_fuel : List ℕ → Bool
no_fuel s = some (λ i. leb (fuels_of s) (fuel_index s i)) (pools_of s)

unfoldable pub no_pool : List ℕ → Bool
no_pool s = some (λ i. leb (pools_of s) (pool_index s i)) (targets_of s)

-- "Section by section from the front, the first fault met: 1, its count runs past the end; 2, its count is over its limit;
-- 1 again, its records run past the end." Else what follows.
unfoldable pub section : List ℕ → ℕ → ℕ → ℕ → Outcome → Outcome
section s start size most rest =
    refuse (ltb (length s) (start + count_size)) (refused 1)
    (refuse (ltb most (two s start)) (refused 2)
    (refuse (ltb (length s) (start + count_size + size * two s start)) (refused 1) rest))

-- "After all three sections, in this order: 3, bytes left over; 4, ..; 5, .."
unfoldable pub after_sections : List ℕ → Outcome
after_sections s =
    refuse (ltb (sheet_end (fuels_of s) (pools_of s) (targets_of s)) (length s)) (refused 3)
    (refuse (no_fuel s) (refused 4)
    (refuse (no_pool s) (refused 5)
    (record { state = 0; fuels = fuels_of s; pools = pools_of s; targets = targets_of s })))

unfoldable pub from_targets : List ℕ → Outcome
from_targets s = section s (targets_start (fuels_of s) (pools_of s)) target_size most_targets (after_sections s)

unfoldable pub from_pools : List ℕ → Outcome
from_pools s = section s (pools_start (fuels_of s)) pool_size most_pools (from_targets s)

unfoldable pub reading_of : List ℕ → Outcome
reading_of s = section s 0 fuel_size most_fuels (from_pools s)

-- What reading has found out of an accepted sheet.
pub record Sound (s : List ℕ) (fuels pools targets : ℕ) : Type 0 where
  pub fuels_are : fuels ≡ fuels_of s
  pub pools_are : pools ≡ pools_of s
  pub targets_are : targets ≡ targets_of s
  pub few : targets ≤ most_targets
  pub whole : sheet_end fuels pools targets ≡ length s
  pub fuel_there : (i : ℕ) → i < pools → fuel_index s i < fuels
  pub pool_there : (i : ℕ) → i < targets → pool_index s i < pools
