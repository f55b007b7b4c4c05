-- How far apart the low and the high shown for an accepted enquiry are at most, in W/m². Demand 3 allows 20.
use Rattle.std.specs.Prelude.{◌≡◌, true, false, ℕ, ◌+◌, ◌≤◌, eqb, pos}
use Rattle.chain.specs.declared.enquiry.Enquiry.{Enquiry}
use Rattle.chain.specs.Flux.{flux_of}

-- The first, the second or the third figure, by a method or a face.
unfoldable pub by_number : ℕ → ℕ → ℕ → ℕ → ℕ
by_number n first second third = elim (eqb n 1) [ true ↦ first | false ↦ elim (eqb n 2) [ true ↦ second | false ↦ third ] ]

-- At any height, by method and face: vertical, horizontal, tilted.
unfoldable pub at_any_height : ℕ → ℕ → ℕ
at_any_height method face = by_number method (by_number face 3 3 4) (by_number face 7 5 9) (by_number face 5 4 6)

-- Level with the flame's base.
unfoldable pub at_height_0 : ℕ → ℕ → ℕ
at_height_0 method face = by_number method 2 (by_number face 2 2 3) 2

pub record Narrow (E : Enquiry) : Type 0 where
  pub ordered : (flux_of E).low ≤ (flux_of E).high
  pub near : (flux_of E).high ≤ (flux_of E).low + at_any_height E.method E.face
  pub near_level : E.height ≡ pos 0 → (flux_of E).high ≤ (flux_of E).low + at_height_0 E.method E.face

-- Of every accepted enquiry.
abbrev pub Widths : Type 0
Widths = (E : Enquiry) → (flux_of E).state ≡ 0 → Narrow E
