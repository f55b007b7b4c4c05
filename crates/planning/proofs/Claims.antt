-- What is claimed of the stand-off. By its three outcomes, from the laws of the smallest distance. Assumes nothing.
use mathlib.Core.Path.{◌≡◌, refl, sym, ap, ◌∙◌}
use Prim.Native.Nat.{ℕ, suc, ◌*◌, ◌-◌, ◌≤◌, ◌<◌}
use native.Mathlib.Nat.{le_trans, le_refl, lt_of_not-le}
use native.Mathlib.Decide.{dec_le}
use native.Mathlib.Omega.{arith}
use lib.Dec.{T, lit≤}
use Rattle.exact.proofs.Demand3.{demand_3}
use Rattle.planning.specs.declared.scenario.Scenario.{Scenario}
use Rattle.planning.specs.Scenario.{at_distance}
use Rattle.planning.specs.StandOff.{Shown, refused, flux_at, keeps_from, stand_off, shown_at, stand_off_of}
use Rattle.planning.specs.Claims.{Kept, KeptFrom, Answered, Over, Zeros, Claims}
use Rattle.planning.proofs.Outcomes.{flux_first, over, kept, by_farthest}
use Rattle.planning.proofs.Nearest.{found, at_most, enough, keeps_each, keeps_all, keeps_farthest, keeps_nearer}
use Rattle.chain.proofs.Limits.{never_above_19}
use Rattle.planning.proofs.SameState.{same_state, accepted_at}

refused_zeros : {n : ℕ} → Zeros (refused n)
refused_zeros = record { decimetres = refl; low = refl; high = refl }

module _ (S : Scenario) (limit : ℕ) where
  state_of : {a : Shown} → stand_off_of S limit ≡ a → (stand_off_of S limit).state ≡ a.state
  state_of e = ap (λ (s : Shown). s.state) e

  only_over : (stand_off_of S limit).state ≡ 41 → Over S limit
  only_over h =
      by_farthest S limit (Over S limit) (λ n p e. absurd (never_above_19 _ 41 (lit≤ tt) (e ∙ sym (state_of (flux_first S limit n p e)) ∙ h))) (λ o. o)
      (λ k. absurd (omega (arith, state_of (kept S limit k), h)))

  zeros : (n : ℕ) → (stand_off_of S limit).state ≡ suc n → Zeros (stand_off_of S limit)
  zeros n h =
      by_farthest S limit (Zeros (stand_off_of S limit)) (λ m p e. rw (flux_first S limit m p e) refused_zeros) (λ o. rw (over S limit o) refused_zeros)
      (λ k. absurd (omega (arith, state_of (kept S limit k), h)))

  kept_of : (stand_off_of S limit).state ≡ 0 → Kept S limit 2_000
  kept_of h =
      by_farthest S limit (Kept S limit 2_000) (λ n p e. absurd (omega (arith, state_of (flux_first S limit n p e), h, p)))
      (λ o. absurd (omega (arith, state_of (over S limit o), h))) (λ k. k)

  -- ---- an answer
  beyond : Kept S limit 2_000 → (d : ℕ) → 10 ≤ d → T (keeps_from S limit d) → KeptFrom S limit d
  beyond k d least t x l h = record { accepted = accepted_at S x k.accepted (le_trans least l) h; high = keeps_each S limit d t x l h }

  before : (d : ℕ) → d ≤ 2_000 → T (keeps_from S limit d) → stand_off S limit ≡ d → 10 < d → limit < (flux_at S (d - 1)).high
  before d most t e l =
      lt_of_not-le
      (λ h.
      let nearer = at_most S limit (d - 1) (enough S limit (d - 1) (omega arith) (keeps_nearer S limit d (d - 1) (omega arith) most t h)) in
      omega (arith, nearer, e, l))

  smallest : stand_off S limit ≤ 2_000 → (d : ℕ) → 10 ≤ d → KeptFrom S limit d → stand_off S limit ≤ d
  smallest most d l h =
      elim (dec_le d 2_000) [
        | yes n ↦ at_most S limit d (enough S limit d l (keeps_all S limit d n (λ x a b. (h x a b).high)))
        | no n ↦ omega (arith, lt_of_not-le n)
      ]

  answer : Kept S limit 2_000 → Answered S limit (shown_at S (stand_off S limit))
  answer k =
      let f = found S limit 2_000 (le_refl _) (enough S limit 2_000 (lit≤ tt) (keeps_farthest S limit k.high)) in
      let d = stand_off S limit in
      record {
        least = f.least;
        most = f.most;
        beyond = beyond k d f.least f.keeps;
        before = before d f.most f.keeps refl;
        smallest = smallest f.most;
        low = refl;
        high = refl;
        exact = demand_3 (at_distance S (100 * d)) (accepted_at S d k.accepted f.least f.most);
      }

  answered : (stand_off_of S limit).state ≡ 0 → Answered S limit (stand_off_of S limit)
  answered h = let k = kept_of h in rw (kept S limit k) (answer k)

pub claims : Claims
claims =
    record {
      same_state = same_state;
      flux_first = λ S limit n e. state_of S limit (flux_first S limit (suc n) (omega arith) e);
      over = λ S limit o. state_of S limit (over S limit o);
      only_over = only_over;
      kept = λ S limit k. state_of S limit (kept S limit k);
      answered = answered;
      zeros = zeros;
    }
