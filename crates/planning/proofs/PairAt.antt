-- A rim distance in decimetres with the pair that the flux shows there. By the fields of what is shown. Assumes nothing.
use mathlib.Core.Path.{◌≡◌, refl, ap}
use Prim.Native.Nat.{ℕ}
use native.Mathlib.Omega.{arith}
use Rattle.std.specs.Prelude.{Result, Ok, Err, IsOk, MatchResult}
use Rattle.chain.specs.Flux.{number_of}
use Rattle.chain.specs.declared.enquiry.Turned.{Turned}
use Rattle.chain.proofs.Limits.{number_above_0}
use Rattle.planning.specs.declared.scenario.Scenario.{Scenario}
use Rattle.planning.specs.declared.stand_off.PairAt.{PairAt}
use Rattle.planning.specs.StandOff.{Shown, shown, flux_at, shown_at}

module _ (S : Scenario) (d : ℕ) where
  pub high_of : (p : PairAt) → shown (Ok p) ≡ shown_at S d → p.high ≡ (flux_at S d).high
  high_of p e = ap (λ (a : Shown). a.high) e

  -- Where the flux is accepted there is a pair.
  pub pair_there :
      (r : Result PairAt Turned)
      → MatchResult r (λ p. (shown (Ok p) ≡ shown_at S d) × ((flux_at S d).state ≡ 0)) (λ why. (flux_at S d).state ≡ number_of why)
      → (flux_at S d).state ≡ 0 → IsOk r
  pair_there (Ok p) h z = refl
  pair_there (Err why) h z = absurd (omega (arith, number_above_0 why, h, z))
