-- A longer input than the longest accepted sheet has the groups of its first 7,495 bytes: no host need read more.
-- By the law of sheets that are refused alike. Assumes nothing.
use mathlib.Core.Path.{◌≡◌}
use mathlib.Core.List.{List}
use Prim.Native.Nat.{ℕ}
use lib.Ieee.{Float}
use Rattle.sheet.proofs.Longest.{front, of_front}
use Rattle.drawing.specs.Groups.{listed, groups_of}
use Rattle.drawing.specs.Lent.{fill_groups_of}

pub front_grouped : (s : List ℕ) → groups_of (front s) ≡ groups_of s
unfolding groups_of listed
front_grouped = of_front groups_of (λ s t a. rw (a.first, a.second))

pub front_filled : (s : List ℕ) (out : List Float) → fill_groups_of (front s) out ≡ fill_groups_of s out
unfolding fill_groups_of
front_filled s out = of_front (λ r. fill_groups_of r out) (λ r t a. rw (a.first, a.second)) s
