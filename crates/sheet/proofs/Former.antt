-- A sheet laid out as before a request, seven bytes a target at first and eleven after request 1, is refused by 1 where it has any
-- target: it is never misread. It ends before thirteen bytes for each of them do. Assumes nothing.
use mathlib.Core.Path.{◌≡◌, ◌∙◌}
use mathlib.Core.List.{List}
use Prim.Native.Nat.{ℕ, ◌+◌, ◌*◌, ◌≤◌, ◌<◌}
use native.Mathlib.Nat.{mul-le-mul_right, suc-mul}
use native.Mathlib.Omega.{arith}
use lib.ListN.{length}
use borrow.Author.Tests.{lt-ltb, le-ltb}
use Rattle.sheet.specs.Layout.{count_size, fuel_size, most_fuels, pool_size, most_pools, target_size, most_targets, pools_start, targets_start}
use Rattle.sheet.specs.Bytes.{two}
use Rattle.sheet.specs.Reading.{Outcome, refused, section, fuels_of, pools_of, targets_of, after_sections, from_targets, from_pools, reading_of}

-- The end of a sheet with so many bytes a target.
abbrev pub former_end : ℕ → ℕ → ℕ → ℕ → ℕ
former_end size fuels pools targets = targets_start fuels pools + count_size + size * targets

module _ (s : List ℕ) (start size most : ℕ) (rest : Outcome) (few : two s start ≤ most) where
  section_inside : start + count_size + size * two s start ≤ length s → section s start size most rest ≡ rest
  unfolding section
  section_inside h =
      rw (le-ltb (length s) (start + count_size) (omega arith), le-ltb most (two s start) few, le-ltb (length s) (start + count_size + size * two s start) h)

  section_cut_short : start + count_size ≤ length s → length s < start + count_size + size * two s start → section s start size most rest ≡ refused 1
  unfolding section
  section_cut_short h k =
      rw (le-ltb (length s) (start + count_size) h, le-ltb most (two s start) few, lt-ltb (length s) (start + count_size + size * two s start) k)

pub former_refused :
    (size : ℕ) → size < target_size → (s : List ℕ) → fuels_of s ≤ most_fuels → pools_of s ≤ most_pools → targets_of s ≤ most_targets
    → 1 ≤ targets_of s → length s ≡ former_end size (fuels_of s) (pools_of s) (targets_of s) → reading_of s ≡ refused 1
unfolding reading_of from_pools from_targets fuels_of pools_of targets_of
former_refused size smaller s f p t some e =
    section_inside s 0 fuel_size most_fuels (from_pools s) f (omega arith)
    ∙ section_inside s (pools_start (fuels_of s)) pool_size most_pools (from_targets s) p (omega arith)
    ∙ section_cut_short s (targets_start (fuels_of s) (pools_of s)) target_size most_targets (after_sections s) t (omega arith)
    (omega (arith, mul-le-mul_right (targets_of s) smaller, suc-mul size (targets_of s)))
