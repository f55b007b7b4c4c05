-- Request 10: "A pool is lit or put out", on every register and all numbers.
use Rattle.std.specs.Prelude.{ℕ, true, false, ◌||◌, not, List, [], ◌∷◌, Result, Ok, Err, leb, ltb, eqb}
use Rattle.pairs.specs.Figures.{refuse}
use Rattle.chain.specs.declared.enquiry.Enquiry.{Enquiry}
use Rattle.chain.specs.Flux.{number_of, outside, flux_of}
use Rattle.register.specs.declared.places.BurningPool.{BurningPool}
use Rattle.register.specs.declared.places.Register.{Register}
use Rattle.register.specs.declared.calls.CallRefusal.{CallRefusal}
use Rattle.register.specs.declared.calls.CallRefusal.TheVariants.{Number, Full, Flux}
use Rattle.register.specs.Places.{vacant, has}
use Rattle.register.specs.Sums.{how_many}

-- The state as this paper shows it, and the register after the call.
pub record Shown : Type 0 where
  pub state : ℕ
  pub register : Register

-- This paper's number for each refusal, and for what a call is answered.
abbrev pub refusal_number : CallRefusal → ℕ
refusal_number Number = 51
refusal_number Full = 52
refusal_number (Flux why) = number_of why

abbrev pub state_of : Result Unit CallRefusal → ℕ
state_of (Ok _) = 0
state_of (Err why) = refusal_number why

abbrev pub shown : Result Unit CallRefusal → Register → Shown
shown answer R = record { state = state_of answer; register = R }

-- "All refusals keep the register."
abbrev pub refused : ℕ → Register → Shown
refused n R = record { state = n; register = R }

abbrev pub accepted : Register → Shown
accepted R = record { state = 0; register = R }

-- The places with a pool in the first place that has a number; as they were where none has it.
unfoldable pub replaced : ℕ → BurningPool → List BurningPool → List BurningPool
replaced n pool [] = []
replaced n pool (p ∷ ps) = elim (eqb p.number n) [ true ↦ pool ∷ ps | false ↦ p ∷ replaced n pool ps ]

-- An accepted call: a pool in the first place that has a number.
abbrev pub with_first : ℕ → BurningPool → Register → Shown
with_first n pool R = accepted (record { places = replaced n pool R.places })

-- A pool "under a number from 1 to 255 with its enquiry", with low and high of its flux.
abbrev pub lit : ℕ → Enquiry → BurningPool
lit number E = record { number = number; enquiry = E; low = (flux_of E).low; high = (flux_of E).high }

-- "51, the number is outside 1 to 255, or is burning when lit or not burning when put out; 52, a pool is lit while 32 burn. Their place:
-- 51, then 52, then the flux's own."; "An enquiry that the flux refuses is refused by the same number."
unfoldable pub light_of : Register → ℕ → Enquiry → Shown
light_of R number E =
    refuse (outside 1 255 number || has number R.places) (refused 51 R)
    (refuse (leb 32 (how_many R)) (refused 52 R)
    (refuse (ltb 0 (flux_of E).state) (refused (flux_of E).state R)
    (with_first 0 (lit number E) R)))

-- "51, .. or not burning when put out"; "A pool put out makes space for another.": its place is vacant.
unfoldable pub put_out_of : Register → ℕ → Shown
put_out_of R number =
    refuse (outside 1 255 number || not (has number R.places)) (refused 51 R)
    (with_first number vacant R)
