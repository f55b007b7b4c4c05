-- Lists of calls that fill the register, so that the claims are not of the empty one alone: an accepted enquiry lit under the numbers 1 to
-- 32, of which each is accepted; then 33 is refused by 52, and accepted after a pool is put out. By what each call is due. The standard's enquiry
-- is one (ISO 24678-7, A.8). Assumes nothing.
use mathlib.Core.Path.{◌≡◌, refl, sym, ◌∙◌}
use mathlib.Core.Option.{none, some}
use mathlib.Core.List.{List, [], ◌∷◌}
use Prim.Native.Nat.{ℕ, zero, suc, ◌≤◌, ◌<◌}
use native.Mathlib.Omega.{arith}
use native.Mathlib.Decide.{ℕ_discrete}
use lib.Dec.{lit≤, lit<}
use lib.IntN.{pos}
use Rattle.chain.specs.declared.enquiry.Enquiry.{Enquiry}
use Rattle.chain.specs.Flux.{flux_of}
use Rattle.chain.proofs.Examples.{example, level_accepted}
use Rattle.history.specs.History.{Call, Light, PutOut, called, after, history, lit_with, afresh}
use Rattle.history.specs.OrderClaims.{set_after}
use Rattle.history.proofs.Afresh.{one_more, no_pools_sum}
use Rattle.history.proofs.Follows.{nothing_lit}
use Rattle.history.proofs.Due.{due_accepted, due_full}
use Rattle.history.proofs.Claims.{claims}
use Rattle.history.proofs.Sets.{set_accepted, set_other, burning_afresh, burning_goes_out}

-- An enquiry lit under the numbers 1 to k.
abbrev pub lights_of : Enquiry → ℕ → List Call
lights_of E zero = []
lights_of E (suc k) = Light (suc k) E ∷ lights_of E k

module _ (E : Enquiry) (accepted : (flux_of E).state ≡ 0) where
  abbrev lights : ℕ → List Call
  lights k = lights_of E k

  pub record Alight (k : ℕ) : Type 0 where
    pub burning : (afresh (history (lights k))).burning ≡ k
    pub lit : (m : ℕ) → 1 ≤ m → m ≤ k → set_after (lights k) m ≡ some E
    pub out : (m : ℕ) → k < m → set_after (lights k) m ≡ none

  alight_none : Alight 0
  unfolding history
  alight_none =
      record {
        burning = no_pools_sum (λ E. 1) (λ n. lit_with n []) nothing_lit 255;
        lit = λ m l h. absurd (omega arith);
        out = λ m l. nothing_lit m;
      }

  lights_another : (k m : ℕ) → k < 32 → k < m → m ≤ 255 → Alight k → (called (after (lights k)) (Light m E)).state ≡ 0
  lights_another k m space new most a =
      claims.answered (lights k) (Light m E)
      ∙ due_accepted (history (lights k)) m E (omega arith) most (a.out m new) (omega (arith, a.burning, space)) accepted

  pub one_more_burns : (k m : ℕ) → k < 32 → k < m → m ≤ 255 → Alight k → (afresh (history (Light m E ∷ lights k))).burning ≡ suc k
  one_more_burns k m space new most a =
      let c = Light m E in
      let more =
      one_more (λ E. 1) (set_after (lights k)) (set_after (c ∷ lights k)) m E (a.out m new)
      (set_accepted (lights k) c m (lights_another k m space new most a) refl) (λ j different. sym (set_other (lights k) c j different)) 255 (omega arith) most
      in
      omega (arith, more, a.burning)

  alight_next : (k : ℕ) → k < 32 → Alight k → Alight (suc k)
  alight_next k l a =
      let c = Light (suc k) E in
      record {
        burning = one_more_burns k (suc k) l (omega arith) (omega arith) a;
        lit =
            λ m least most. elim (ℕ_discrete (suc k) m) [
              | yes e ↦ set_accepted (lights k) c m (lights_another k (suc k) l (omega arith) (omega arith) a) e
              | no e ↦ set_other (lights k) c m e ∙ a.lit m least (omega (arith, e, most))
            ];
        out = λ m l. set_other (lights k) c m (λ e. omega (arith, e, l)) ∙ a.out m (omega arith);
      }

  pub alight : (k : ℕ) → k ≤ 32 → Alight k
  alight zero l = alight_none
  alight (suc k) l = alight_next k (omega arith) (alight k (omega arith))

  pub another_lit : (k m : ℕ) → k < 32 → k < m → m ≤ 255 → (called (after (lights k)) (Light m E)).state ≡ 0
  another_lit k m space new most = lights_another k m space new most (alight k (omega arith))

  pub one_put_out : (k m : ℕ) → k ≤ 32 → 1 ≤ m → m ≤ k → (called (after (lights k)) (PutOut m)).state ≡ 0
  one_put_out k m l least most = burning_goes_out (lights k) m E ((alight k l).lit m least most)

  -- With 32 alight another is refused by 52.
  pub full : (called (after (lights 32)) (Light 33 E)).state ≡ 52
  full =
      let a = alight 32 (lit≤ tt) in
      claims.answered (lights 32) (Light 33 E)
      ∙ due_full (history (lights 32)) 33 E (lit≤ tt) (lit≤ tt) (a.out 33 (lit< tt)) (omega (arith, a.burning))

  put_out : (called (after (lights 32)) (PutOut 1)).state ≡ 0
  put_out = one_put_out 32 1 (lit≤ tt) (lit≤ tt) (lit≤ tt)

  -- "A pool put out makes space for another."
  pub space : (called (after (PutOut 1 ∷ lights 32)) (Light 33 E)).state ≡ 0
  space =
      let h = history (PutOut 1 ∷ lights 32) in
      let fewer = claims.one_fewer (lights 32) 1 put_out in
      let most = claims.at_most (lights 32) in
      let out = set_other (lights 32) (PutOut 1) 33 (λ e. omega (arith, e)) ∙ (alight 32 (lit≤ tt)).out 33 (lit< tt) in
      claims.answered (PutOut 1 ∷ lights 32) (Light 33 E)
      ∙ due_accepted h 33 E (lit≤ tt) (lit≤ tt) out (omega (arith, fewer, most, burning_afresh (PutOut 1 ∷ lights 32))) accepted

-- The standard's enquiry, so there are such lists.
pub standard_full : (called (after (lights_of (example 1 1 (pos 0) 1_000) 32)) (Light 33 (example 1 1 (pos 0) 1_000))).state ≡ 52
standard_full = full (example 1 1 (pos 0) 1_000) (level_accepted 1 1 1_000 refl refl refl)
