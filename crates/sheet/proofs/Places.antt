-- Where a target of an accepted sheet has its pool and its fuel, and that both are there.
-- By the counts and indices that reading has tested. Assumes nothing.
use mathlib.Core.Path.{◌≡◌, ◌∙◌}
use mathlib.Core.List.{List}
use Prim.Native.Nat.{ℕ, ◌+◌, ◌<◌}
use Rattle.chain.specs.Flux.{flux_of}
use Rattle.sheet.specs.Layout.{fuel_index_offset, fuel_at, pool_at, target_at}
use Rattle.sheet.specs.Bytes.{two}
use Rattle.sheet.specs.Reading.{Sound, fuel_index, pool_index}
use Rattle.sheet.specs.Target.{enquiry_at, enquiry_of, shown_of}

module _ (s : List ℕ) (f p t : ℕ) (k : Sound s f p t) where
  pool_read : (i : ℕ) → two s (target_at f p i) ≡ pool_index s i
  unfolding pool_index
  pool_read i = rw (k.fuels_are, k.pools_are)

  fuel_read : (j : ℕ) → two s (pool_at f j + fuel_index_offset) ≡ fuel_index s j
  unfolding fuel_index
  fuel_read j = rw k.fuels_are

  pub pool_found : (i : ℕ) → i < t → two s (target_at f p i) < p
  pool_found i h = rw (pool_read i) (k.pool_there i h)

  pub fuel_found : (j : ℕ) → j < p → two s (pool_at f j + fuel_index_offset) < f
  fuel_found j h = rw (fuel_read j) (k.fuel_there j h)

  pub target_shown :
      (i pool fuel : ℕ) → pool ≡ two s (target_at f p i) → fuel ≡ two s (pool_at f pool + fuel_index_offset)
      → flux_of (enquiry_at s (fuel_at fuel) (pool_at f pool) (target_at f p i)) ≡ shown_of s i
  unfolding shown_of enquiry_of
  target_shown i pool fuel e g = rw (g ∙ fuel_read pool, e ∙ pool_read i, k.fuels_are, k.pools_are)
