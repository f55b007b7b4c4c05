-- Request 11: "Two wardens report by radio, and their messages cross." What is claimed of two calls in either order, and of a pool that is lit
-- and put out again, after every list of calls from the empty register. The latest call stands first in a list.
use Rattle.std.specs.Prelude.{ℕ, ◌≤◌, ◌≡◌, List, ◌∷◌}
use Rattle.std.proofs.Math.Option.{Option, none}
use Rattle.chain.specs.declared.enquiry.Enquiry.{Enquiry}
use Rattle.register.specs.declared.places.Register.{Register}
use Rattle.register.specs.Sums.{sums_of}
use Rattle.history.specs.History.{Call, Light, PutOut, called, after, history, about, lit_with}
use Rattle.history.specs.Claims.{Burns}

-- The "set" after a list of calls: each number with the enquiry it burns with, none where it is out. From the calls and what each was
-- answered, not from the register's places: two orders may fill different places and have the same set.
abbrev pub set_after : List Call → ℕ → Option Enquiry
set_after calls number = lit_with number (history calls)

-- "the same set and sums"
pub record SameSetAndSums (these those : List Call) : Type 0 where
  pub set : (number : ℕ) → set_after these number ≡ set_after those number
  pub sums : sums_of (after these) ≡ sums_of (after those)

-- The same of two registers: the same pools burn, with the same enquiries, at whatever places, and the sums are the same.
pub record SamePoolsAndSums (R S : Register) : Type 0 where
  pub in_second : (number : ℕ) (E : Enquiry) → Burns R number E → Burns S number E
  pub in_first : (number : ℕ) (E : Enquiry) → Burns S number E → Burns R number E
  pub sums : sums_of R ≡ sums_of S

-- Two calls "about different pool numbers .. provided at most 30 pools burn before them".
pub record Crossing (before : List Call) (one other : Call) : Type 0 where
  pub different : about one ≡ about other → ⊥
  pub burning_before : (sums_of (after before)).burning ≤ 30

-- All that is claimed.
pub record OrderClaims : Type 0 where
  -- Whether a call is accepted, and by which number it is refused, does not depend on the other having come before it.
  pub answered_alike :
      (before : List Call) (one other : Call) → Crossing before one other
      → (called (after (other ∷ before)) one).state ≡ (called (after before) one).state
  -- "Two accepted calls .. must give the same set and sums in either order": also where one is refused, or both
  pub either_order :
      (before : List Call) (one other : Call) → Crossing before one other → SameSetAndSums (other ∷ one ∷ before) (one ∷ other ∷ before)
  -- "Lighting a pool that was out and then putting it out must restore set and sums.": also where the lighting is refused
  pub restored :
      (before : List Call) (number : ℕ) (E : Enquiry) → set_after before number ≡ none
      → SameSetAndSums (PutOut number ∷ Light number E ∷ before) before
  -- Where the lighting is accepted, so is the putting out that follows it.
  pub can_be_put_out :
      (before : List Call) (number : ℕ) (E : Enquiry) → (called (after before) (Light number E)).state ≡ 0
      → (called (after (Light number E ∷ before)) (PutOut number)).state ≡ 0
  -- Where a call is refused, nothing has changed: `kept` of Claims says so of every place.
  pub unchanged : (before : List Call) (c : Call) → 1 ≤ (called (after before) c).state → SameSetAndSums (c ∷ before) before
  -- The set is that of the register (`lit` and `only_lit` of Claims); so where set and sums are the same, the registers have the same pools.
  pub same_pools : (these those : List Call) → SameSetAndSums these those → SamePoolsAndSums (after these) (after those)
