-- Request 4: "That value is exact for these sizes, and a user should be able to rely on it." What is claimed of the floats, for every
-- whole number, every enquiry and every sheet.
use Rattle.std.specs.Prelude.{ℕ, suc, ◌+◌, ◌*◌, ◌≤◌, ◌<◌, ◌≡◌, Bool, true, ◌&&◌, List, get_or, Float}
use Rattle.std.specs.Float.{binary64}
use Rattle.std.specs.Float.Ieee.{add, le}
use Rattle.chain.specs.declared.enquiry.Enquiry.{Enquiry}
use Rattle.chain.specs.Flux.{flux_of}
use Rattle.sheet.specs.Layout.{most_targets}
use Rattle.sheet.specs.Reading.{reading_of}
use Rattle.drawing.specs.declared.figures.Ends.{Ends}
use Rattle.drawing.specs.declared.figures.Ends.TheVariants.{Answered, Refused}
use Rattle.drawing.specs.declared.figures.Group.{Group}
use Rattle.drawing.specs.Floats.{float, middle, Value, plain}
use Rattle.drawing.specs.Figures.{ends_of, group_of}
use Rattle.drawing.specs.Groups.{groups_of}
use Rattle.drawing.specs.Lent.{group_size, fill_groups_of}

-- "whole numbers below 2^33"
abbrev pub limit : ℕ
limit = 8_589_934_592

-- Of two such numbers: each float is the whole number, the float sum is that of their sum, and the middle is exactly half of it.
pub record Exact (a b : ℕ) : Type 0 where
  pub low : Value (float a) a 1
  pub high : Value (float b) b 1
  pub sum : add binary64 (float a) (float b) ≡ float (a + b)
  pub half : Value (middle (float a) (float b)) (a + b) 2

-- Of a group: its middle lies between its ends, and twice the middle is low plus high, as the host compares and adds.
pub record Between (g : Group) : Type 0 where
  pub from_low : le g.low g.middle ≡ true
  pub to_high : le g.middle g.high ≡ true
  pub twice : add binary64 g.middle g.middle ≡ add binary64 g.low g.high

-- Of an accepted enquiry: its figures are such numbers, and its group is theirs.
pub record Drawn (E : Enquiry) : Type 0 where
  pub exact : Exact (flux_of E).low (flux_of E).high
  pub answered : ends_of E ≡ Answered (float (flux_of E).low) (float (flux_of E).high)
  pub between : Between (group_of (ends_of E))

-- No NaN, no infinity and no -0 comes out.
abbrev pub plain_ends : Ends → Bool
plain_ends (Answered low high) = plain low && plain high
plain_ends (Refused number) = true

abbrev pub plain_group : Group → Bool
plain_group g = plain g.low && plain g.middle && plain g.high

-- All that is claimed. `get_or l i other` is element i of l, or `other` past its end.
pub record Claims : Type 0 where
  pub exact : (a b : ℕ) → a < limit → b < limit → Exact a b
  pub drawn : (E : Enquiry) → (flux_of E).state ≡ 0 → Drawn E
  pub ends_plain : (E : Enquiry) → plain_ends (ends_of E) ≡ true
  pub few : (s : List ℕ) → (groups_of s).count ≤ most_targets
  pub groups_plain :
      (s : List ℕ) (i : ℕ) → i < most_targets → (other : Group) → plain_group (get_or (groups_of s).groups i other) ≡ true
  pub refused_kept : (s : List ℕ) (out : List Float) (n : ℕ) → (fill_groups_of s out).number ≡ suc n → (fill_groups_of s out).elements ≡ out
  pub fill_plain :
      (s : List ℕ) (out : List Float) → (fill_groups_of s out).number ≡ 0 → (i : ℕ) → i < group_size * (reading_of s).targets
      → (other : Float) → plain (get_or (fill_groups_of s out).elements i other) ≡ true
