-- A longer input than the longest accepted sheet is refused, by the same number as its first 7,495 bytes: no program need read more.
-- Every section that passes ends before those bytes do, so both are read alike. Assumes nothing.
use mathlib.Core.Path.{◌≡◌, refl, sym, ap, ◌∙◌}
use mathlib.Core.Bool.{Bool, true, false}
use mathlib.Core.List.{List}
use Prim.Native.Nat.{ℕ, suc, ◌+◌, ◌*◌, ◌≤◌, ◌<◌}
use native.Mathlib.Nat.{mul-le-mul_left}
use native.Mathlib.Decide.{dec_lt}
use native.Mathlib.Omega.{arith}
use lib.ListN.{length, take}
use lib.Seq.{length-take-le, get_or-take, take_all}
use lib.Dec.{ltb}
use borrow.Author.Tests.{ltb-false, lt-ltb, le-ltb}
use Rattle.pairs.specs.Figures.{refuse}
use Rattle.sheet.specs.Layout.{count_size, fuel_size, most_fuels, pool_size, most_pools, target_size, most_targets, pools_start, targets_start, sheet_end, longest}
use Rattle.sheet.specs.Bytes.{two}
use Rattle.sheet.specs.Reading.{Outcome, refused, section, fuels_of, pools_of, targets_of, after_sections, from_targets, from_pools, reading_of}
use Rattle.sheet.specs.Fill.{fill_of}
use Rattle.sheet.specs.Report.{text_of, report_of}

-- Two outcomes that are refused alike.
pub record Alike (o p : Outcome) : Type 0 where
  pub least : ℕ
  pub first : o ≡ refused (suc least)
  pub second : p ≡ refused (suc least)

-- A section with room for as many records as it may have.
roomy :
    (s : List ℕ) (start size most : ℕ) (rest : Outcome) → start + count_size + size * most ≤ length s
    → section s start size most rest ≡ refuse (ltb most (two s start)) (refused 2) rest
unfolding section
roomy s start size most rest h =
    rw (le-ltb (length s) (start + count_size) (omega arith)) (by_count (ltb most (two s start)) refl)
  where
    by_count : (b : Bool) → ltb most (two s start) ≡ b → refuse b (refused 2) (refuse (ltb (length s) (start + count_size + size * two s start)) (refused 1) rest) ≡ refuse b (refused 2) rest
    by_count true e = refl
    by_count false e = rw (le-ltb (length s) (start + count_size + size * two s start) (omega (arith, mul-le-mul_left size (ltb-false most (two s start) e))))

by_limit : (b : Bool) (o p : Outcome) → (b ≡ false → Alike o p) → Alike (refuse b (refused 2) o) (refuse b (refused 2) p)
by_limit true o p h = record { least = 1; first = refl; second = refl }
by_limit false o p h = h refl

sections_alike :
    (s t : List ℕ) (start size most : ℕ) (o p : Outcome) → start + count_size + size * most ≤ length s → start + count_size + size * most ≤ length t
    → two s start ≡ two t start → (two s start ≤ most → Alike o p) → Alike (section s start size most o) (section t start size most p)
sections_alike s t start size most o p h k e a =
    rw (roomy s start size most o h, roomy t start size most p k, ← e)
    (by_limit (ltb most (two s start)) o p (λ l. a (ltb-false most (two s start) l)))

left_over : (t : List ℕ) → sheet_end (fuels_of t) (pools_of t) (targets_of t) < length t → after_sections t ≡ refused 3
unfolding after_sections
left_over t h = rw (lt-ltb _ _ h)

-- Two inputs that are longer than any accepted sheet and have the same numbers in the bytes that such a sheet would have.
module _ (s t : List ℕ) (s_long : longest < length s) (t_long : longest < length t) (same : (at : ℕ) → at + count_size ≤ longest → two s at ≡ two t at) where
  same_fuels : fuels_of s ≡ fuels_of t
  unfolding fuels_of
  same_fuels = same 0 (omega arith)

  same_pools : fuels_of s ≤ most_fuels → pools_of s ≡ pools_of t
  unfolding pools_of
  same_pools h = rw (← same_fuels) (same (pools_start (fuels_of s)) (omega arith))

  same_targets : fuels_of s ≤ most_fuels → pools_of s ≤ most_pools → targets_of s ≡ targets_of t
  unfolding targets_of
  same_targets h k = rw (← same_fuels, ← same_pools h) (same (targets_start (fuels_of s) (pools_of s)) (omega arith))

  ends_alike : fuels_of s ≤ most_fuels → pools_of s ≤ most_pools → targets_of s ≤ most_targets → Alike (after_sections s) (after_sections t)
  ends_alike h k l =
      record {
        least = 2;
        first = left_over s (omega arith);
        second = left_over t (rw (← same_fuels, ← same_pools h, ← same_targets h k) (omega arith));
      }

  targets_alike : fuels_of s ≤ most_fuels → pools_of s ≤ most_pools → Alike (from_targets s) (from_targets t)
  unfolding from_targets targets_of
  targets_alike h k =
      rw (← same_fuels, ← same_pools h)
      (sections_alike s t (targets_start (fuels_of s) (pools_of s)) target_size most_targets (after_sections s) (after_sections t) (omega arith) (omega arith) (same _ (omega arith)) (λ l. ends_alike h k l))

  pools_alike : fuels_of s ≤ most_fuels → Alike (from_pools s) (from_pools t)
  unfolding from_pools pools_of
  pools_alike h =
      rw (← same_fuels)
      (sections_alike s t (pools_start (fuels_of s)) pool_size most_pools (from_targets s) (from_targets t) (omega arith) (omega arith) (same _ (omega arith)) (λ l. targets_alike h l))

  read_alike : Alike (reading_of s) (reading_of t)
  unfolding reading_of fuels_of
  read_alike = sections_alike s t 0 fuel_size most_fuels (from_pools s) (from_pools t) (omega arith) (omega arith) (same 0 (omega arith)) (λ l. pools_alike l)

-- The bytes that are read of any input.
abbrev pub front : List ℕ → List ℕ
front s = take (longest + 1) s

same_front : (s : List ℕ) (at : ℕ) → at + count_size ≤ longest → two s at ≡ two (front s) at
unfolding two
same_front s at k = rw (get_or-take (longest + 1) s at 0 (omega arith), get_or-take (longest + 1) s (at + 1) 0 (omega arith))

front_alike : (s : List ℕ) → longest < length s → Alike (reading_of s) (reading_of (front s))
front_alike s h = read_alike s (front s) h (rw (length-take-le (longest + 1) s (omega arith)) (omega arith)) (same_front s)

-- Of every input the first 7,495 bytes are enough, for all that is the same of two sheets refused alike.
pub of_front :
    {X : Type 0} (F : List ℕ → X) → ((s t : List ℕ) → Alike (reading_of s) (reading_of t) → F t ≡ F s) → (s : List ℕ) → F (front s) ≡ F s
of_front F same s =
    elim (dec_lt longest (length s)) [
      | yes l ↦ same s (front s) (front_alike s l)
      | no l ↦ ap F (take_all (longest + 1) s (omega arith))
    ]

pub front_read : (s : List ℕ) → reading_of (front s) ≡ reading_of s
front_read = of_front reading_of (λ s t a. a.second ∙ sym a.first)

pub front_filled : (s out : List ℕ) → fill_of (front s) out ≡ fill_of s out
unfolding fill_of
front_filled s out = of_front (λ r. fill_of r out) (λ r t a. rw (a.first, a.second)) s

pub front_printed : (s : List ℕ) → text_of (front s) ≡ text_of s
unfolding text_of
front_printed = of_front text_of (λ s t a. rw (a.first, a.second))

pub front_reported : (s out : List ℕ) → report_of (front s) out ≡ report_of s out
unfolding report_of
front_reported s out = rw (front_printed s)
