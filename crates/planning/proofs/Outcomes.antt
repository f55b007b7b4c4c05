-- The three outcomes of a stand-off, by what the flux shows at 2,000 decimetres: a refusal of its own, 41, or an answer.
-- By the outcomes of the tests. Assumes nothing.
use mathlib.Core.Path.{◌≡◌, refl}
use Prim.Native.Nat.{ℕ, zero, suc, ◌≤◌, ◌<◌}
use native.Mathlib.Nat.{lt_of_not-le}
use native.Mathlib.Decide.{dec_le}
use native.Mathlib.Omega.{arith}
use borrow.Author.Tests.{lt-ltb, le-ltb}
use Rattle.std.specs.Prelude.{Ok}
use Rattle.planning.specs.declared.scenario.Scenario.{Scenario}
use Rattle.planning.specs.declared.stand_off.PairAt.{PairAt}
use Rattle.planning.specs.StandOff.{refused, shown, flux_at, stand_off, shown_at, stand_off_of}
use Rattle.planning.specs.Claims.{Kept, Over}
use Rattle.planning.proofs.PairAt.{high_of}

module _ (S : Scenario) (limit : ℕ) where
  pub flux_first : (n : ℕ) → 0 < n → (flux_at S 2_000).state ≡ n → stand_off_of S limit ≡ refused n
  unfolding stand_off_of
  flux_first n p e = rw (e, lt-ltb 0 n p)

  pub over : Over S limit → stand_off_of S limit ≡ refused 41
  unfolding stand_off_of
  over o = rw (o.accepted, lt-ltb limit (flux_at S 2_000).high o.high)

  pub kept : Kept S limit 2_000 → stand_off_of S limit ≡ shown_at S (stand_off S limit)
  unfolding stand_off_of
  kept k = rw (k.accepted, le-ltb limit (flux_at S 2_000).high k.high)

  -- There is no other.
  pub by_farthest :
      (P : Type 0) → ((n : ℕ) → 0 < n → (flux_at S 2_000).state ≡ n → P) → (Over S limit → P) → (Kept S limit 2_000 → P) → P
  by_farthest P refusal over kept = by_state (flux_at S 2_000).state refl
    where
      by_state : (n : ℕ) → (flux_at S 2_000).state ≡ n → P
      by_state zero e =
          elim (dec_le (flux_at S 2_000).high limit) [
            | yes k ↦ kept (record { accepted = e; high = k })
            | no k ↦ over (record { accepted = e; high = lt_of_not-le k })
          ]
      by_state (suc n) e = refusal (suc n) (omega arith) e

  -- The last two, of the pair at 2,000 decimetres, where the flux is accepted.
  module _ {p : PairAt} (there : (shown (Ok p) ≡ shown_at S 2_000) × ((flux_at S 2_000).state ≡ 0)) where
    pub over_by : limit < p.high → Over S limit
    over_by h = record { accepted = there.1; high = omega (arith, high_of S 2_000 p there.0) }

    pub kept_by : p.high ≤ limit → Kept S limit 2_000
    kept_by h = record { accepted = there.1; high = omega (arith, high_of S 2_000 p there.0) }
