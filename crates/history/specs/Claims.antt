-- Request 10: what is claimed of the register, for every list of calls from the empty one, whatever was accepted or refused in it.
use Rattle.std.specs.Prelude.{ℕ, suc, ◌≤◌, ◌<◌, ◌≡◌, List, ◌∷◌, length, get_or}
use Rattle.std.proofs.Math.Option.{some}
use Rattle.chain.specs.declared.enquiry.Enquiry.{Enquiry}
use Rattle.chain.specs.Flux.{flux_of}
use Rattle.register.specs.declared.places.BurningPool.{BurningPool}
use Rattle.register.specs.declared.places.Register.{Register}
use Rattle.register.specs.Places.{vacant}
use Rattle.register.specs.Sums.{sums_of}
use Rattle.history.specs.History.{Call, Light, PutOut, called, after, history, lit_with, afresh, due}

abbrev pub place_at : Register → ℕ → BurningPool
place_at R i = get_or R.places i vacant

-- A pool burns at a place of the register, with this enquiry.
pub record Burns (R : Register) (number : ℕ) (E : Enquiry) : Type 0 where
  pub place : ℕ
  pub there : place < 32
  pub least : 1 ≤ number
  pub number_there : (place_at R place).number ≡ number
  pub enquiry : (place_at R place).enquiry ≡ E

-- A pool as it was lit: "under a number from 1 to 255 with its enquiry", which is accepted, and the low and high of its flux.
pub record AsLit (p : BurningPool) : Type 0 where
  pub most : p.number ≤ 255
  pub accepted : (flux_of p.enquiry).state ≡ 0
  pub low : p.low ≡ (flux_of p.enquiry).low
  pub high : p.high ≡ (flux_of p.enquiry).high

-- All that is claimed.
pub record Claims : Type 0 where
  -- "a pool counts exactly when its last accepted call lit it": then it burns, with the enquiry of that call
  pub lit : (calls : List Call) (number : ℕ) (E : Enquiry) → lit_with number (history calls) ≡ some E → Burns (after calls) number E
  pub only_lit : (calls : List Call) (number : ℕ) (E : Enquiry) → Burns (after calls) number E → lit_with number (history calls) ≡ some E
  pub as_lit : (calls : List Call) (i : ℕ) → i < 32 → 1 ≤ (place_at (after calls) i).number → AsLit (place_at (after calls) i)
  -- "the sums are those worked afresh over such pools"
  pub sums : (calls : List Call) → sums_of (after calls) ≡ afresh (history calls)
  -- "up to 32 burning pools, each under a number": no number burns twice
  pub places : (calls : List Call) → length (after calls).places ≡ 32
  pub at_most : (calls : List Call) → (sums_of (after calls)).burning ≤ 32
  pub once :
      (calls : List Call) (i j : ℕ) → i < 32 → j < 32 → 1 ≤ (place_at (after calls) i).number
      → (place_at (after calls) i).number ≡ (place_at (after calls) j).number → i ≡ j
  -- each call is refused by 51, 52 or the flux's own exactly as said, and else accepted
  pub answered : (calls : List Call) (c : Call) → (called (after calls) c).state ≡ due (history calls) c
  -- "All refusals keep the register.": every register, also one that no call makes
  pub kept : (R : Register) (c : Call) → 1 ≤ (called R c).state → (called R c).register ≡ R
  -- "A pool put out makes space for another.": one fewer burns, and no lighting is refused by 52 then
  pub one_fewer :
      (calls : List Call) (number : ℕ) → (called (after calls) (PutOut number)).state ≡ 0
      → suc (sums_of (after (PutOut number ∷ calls))).burning ≡ (sums_of (after calls)).burning
  pub space :
      (calls : List Call) (number : ℕ) → (called (after calls) (PutOut number)).state ≡ 0
      → (another : ℕ) (E : Enquiry) → (called (after (PutOut number ∷ calls)) (Light another E)).state ≡ 52 → ⊥
