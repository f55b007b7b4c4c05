-- Document 01, "Sheet and fill", and requests 1 and 3 of document 02: where each number of a sheet stands. Every size, offset and limit is here and nowhere else.
use Rattle.std.specs.Prelude.{ℕ, ◌+◌, ◌*◌}

-- "Three sections in this order, each after a 2-byte count: fuels (at most 64), pools (64), targets (512)."
abbrev pub count_size : ℕ
count_size = 2

abbrev pub most_fuels : ℕ
most_fuels = 64

abbrev pub most_pools : ℕ
most_pools = 64

abbrev pub most_targets : ℕ
most_targets = 512

-- "Fuel: m, k, c, 2 bytes each."
abbrev pub fuel_size : ℕ
fuel_size = 6

abbrev pub absorption_offset : ℕ
absorption_offset = 2

abbrev pub heat_offset : ℕ
heat_offset = 4

-- "Pool: a in 4, fuel index in 2, method in 1."
abbrev pub pool_size : ℕ
pool_size = 7

abbrev pub fuel_index_offset : ℕ
fuel_index_offset = 4

abbrev pub method_offset : ℕ
method_offset = 6

-- "Target: pool index in 2, d in 4, face in 1." Request 1: "A target gains a signed height above the flame's base, 4 bytes in two's
-- complement after the face." Request 3, of the transmissivity: "Each target carries it in thousandths, 2 bytes after the height".
abbrev pub target_size : ℕ
target_size = 13

abbrev pub distance_offset : ℕ
distance_offset = 2

abbrev pub face_offset : ℕ
face_offset = 6

abbrev pub height_offset : ℕ
height_offset = 7

abbrev pub transmissivity_offset : ℕ
transmissivity_offset = 11

-- "The fill writes 10 bytes per target."
abbrev pub answer_size : ℕ
answer_size = 10

-- Where a section starts, and where the sheet ends, after so many records in each section before it.
abbrev pub pools_start : ℕ → ℕ
pools_start fuels = count_size + fuel_size * fuels

abbrev pub targets_start : ℕ → ℕ → ℕ
targets_start fuels pools = pools_start fuels + count_size + pool_size * pools

abbrev pub sheet_end : ℕ → ℕ → ℕ → ℕ
sheet_end fuels pools targets = targets_start fuels pools + count_size + target_size * targets

-- "Indices start at 0."
abbrev pub fuel_at : ℕ → ℕ
fuel_at i = count_size + fuel_size * i

abbrev pub pool_at : ℕ → ℕ → ℕ
pool_at fuels i = pools_start fuels + count_size + pool_size * i

abbrev pub target_at : ℕ → ℕ → ℕ → ℕ
target_at fuels pools i = targets_start fuels pools + count_size + target_size * i

-- The longest sheet that is accepted has every section full.
abbrev pub longest : ℕ
longest = sheet_end most_fuels most_pools most_targets
