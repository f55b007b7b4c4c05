-- Request 10: "After every list of these calls from an empty register, a pool counts exactly when its last accepted call lit it, and the
-- sums are those worked afresh over such pools." What a list of calls says by itself: from the calls and what each was answered, not
-- from the register's places.
use Rattle.std.specs.Prelude.{ℕ, zero, suc, ◌+◌, Bool, true, false, ◌&&◌, ◌||◌, not, List, [], ◌∷◌, leb, eqb}
use Rattle.std.proofs.Math.Option.{Option, none, some}
use Rattle.pairs.specs.Figures.{refuse}
use Rattle.chain.specs.declared.enquiry.Enquiry.{Enquiry}
use Rattle.chain.specs.Flux.{outside, flux_of}
use Rattle.register.specs.declared.places.Register.{Register}
use Rattle.register.specs.declared.sums.Totals.{Totals}
use Rattle.register.specs.Places.{no_pools}
use Rattle.register.specs.Calls.{Shown, light_of, put_out_of}

-- "A pool is lit or put out."
pub data Call : Type 0 where
  Light : ℕ → Enquiry → Call
  PutOut : ℕ → Call

abbrev pub called : Register → Call → Shown
called R (Light number E) = light_of R number E
called R (PutOut number) = put_out_of R number

-- The register after a list of calls "from an empty register". The latest call stands first in the list.
unfoldable pub after : List Call → Register
after [] = no_pools
after (c ∷ earlier) = (called (after earlier) c).register

-- A call and what it was answered: 0, or the number of the refusal.
pub record Answered : Type 0 where
  pub call : Call
  pub state : ℕ

-- Each call of a list with what it was answered, the latest first.
unfoldable pub history : List Call → List Answered
history [] = []
history (c ∷ earlier) = record { call = c; state = (called (after earlier) c).state } ∷ history earlier

-- The number that a call is about, and what an accepted call leaves there: a pool lit with an enquiry, or none.
abbrev pub about : Call → ℕ
about (Light number E) = number
about (PutOut number) = number

abbrev pub leaves : Call → Option Enquiry
leaves (Light number E) = some E
leaves (PutOut number) = none

-- The enquiry with which a pool's "last accepted call lit it"; none where that call put it out, or no call was accepted.
unfoldable pub lit_with : ℕ → List Answered → Option Enquiry
lit_with n [] = none
lit_with n (a ∷ earlier) =
    elim (eqb a.state 0 && eqb (about a.call) n) [ true ↦ leaves a.call | false ↦ lit_with n earlier ]

-- A figure of a pool's enquiry, 0 where it is out.
abbrev pub figure_of : (Enquiry → ℕ) → Option Enquiry → ℕ
figure_of figure none = 0
figure_of figure (some E) = figure E

-- The figures of the pools from number 1 to n, summed: "worked afresh over such pools".
unfoldable pub over_numbers : (Enquiry → ℕ) → (ℕ → Option Enquiry) → ℕ → ℕ
over_numbers figure pools zero = 0
over_numbers figure pools (suc n) = figure_of figure (pools (suc n)) + over_numbers figure pools n

abbrev pub afresh : List Answered → Totals
afresh h =
    let pools : ℕ → Option Enquiry = λ n. lit_with n h in
    record {
      burning = over_numbers (λ E. 1) pools 255;
      lows = over_numbers (λ E. (flux_of E).low) pools 255;
      highs = over_numbers (λ E. (flux_of E).high) pools 255;
    }

abbrev pub is_lit : Option Enquiry → Bool
is_lit none = false
is_lit (some E) = true

-- What a call is to be answered: "51, the number is outside 1 to 255, or is burning when lit or not burning when put out; 52, a pool is
-- lit while 32 burn. Their place: 51, then 52, then the flux's own."
unfoldable pub due : List Answered → Call → ℕ
due h (Light number E) =
    refuse (outside 1 255 number || is_lit (lit_with number h)) 51
    (refuse (leb 32 (afresh h).burning) 52
    (flux_of E).state)
due h (PutOut number) = refuse (outside 1 255 number || not (is_lit (lit_with number h))) 51 0
