-- The burning pools in order as the calls have them, and the place of a pool that burns. From the claims of the register. Assumes nothing.
use mathlib.Core.Path.{◌≡◌, refl, sym, ap, ◌∙◌}
use mathlib.Core.Bool.{true≢false}
use mathlib.Core.Option.{Option, none, some}
use mathlib.Core.List.{List}
use Prim.Native.Nat.{ℕ, ◌≤◌, ◌<◌}
use native.Mathlib.Omega.{arith}
use lib.ListN.{length}
use Rattle.chain.specs.declared.enquiry.Enquiry.{Enquiry}
use Rattle.chain.specs.Flux.{flux_of}
use Rattle.register.specs.declared.places.BurningPool.{BurningPool}
use Rattle.register.proofs.ByNumber.{pool_at}
use Rattle.which.specs.WhichPools.{in_order}
use Rattle.history.specs.History.{Call, after, is_lit, figure_of}
use Rattle.history.specs.Claims.{Burns}
use Rattle.history.specs.OrderClaims.{set_after}
use Rattle.history.specs.WhichClaims.{Burning, low_after}
use Rattle.history.proofs.Claims.{claims}
use Rattle.history.proofs.Ranked.{Each, each_by_place, each_in_order}

-- A pool in the register as the calls have it.
pub record Known (calls : List Call) (p : BurningPool) : Type 0 where
  pub burning : Burning calls p.number
  pub low : low_after calls p.number ≡ p.low

module _ (calls : List Call) where
  abbrev ps : List BurningPool
  ps = (after calls).places

  pub known_at_place : (i : ℕ) → i < length ps → ((pool_at ps i).number ≡ 0 → ⊥) → Known calls (pool_at ps i)
  known_at_place i l k =
      let there : i < 32 = omega (arith, l, claims.places calls) in
      let least : 1 ≤ (pool_at ps i).number = omega (arith, k) in
      let lit =
      claims.only_lit calls (pool_at ps i).number (pool_at ps i).enquiry
      (record { place = i; there = there; least = least; number_there = refl; enquiry = refl }) in
      record { burning = ap is_lit lit; low = ap (figure_of (λ E. (flux_of E).low)) lit ∙ sym (claims.as_lit calls i there least).low }

  pub known : Each (Known calls) (in_order ps)
  known = each_in_order (Known calls) ps (each_by_place (λ p. (p.number ≡ 0 → ⊥) → Known calls p) ps known_at_place)

  -- A pool that burns, with its enquiry and its place.
  pub burning_at : (number : ℕ) → Burning calls number → (E : Enquiry) × Burns (after calls) number E
  burning_at number b = by_pool (set_after calls number) refl
    where
      by_pool : (o : Option Enquiry) → set_after calls number ≡ o → (E : Enquiry) × Burns (after calls) number E
      by_pool none e = absurd (true≢false (sym b ∙ ap is_lit e))
      by_pool (some E) e = (E, claims.lit calls number E e)
