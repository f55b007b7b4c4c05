-- What is claimed of the first free place. By its outcomes, from the laws of the walk, of the flux's own refusal and of the radius.
-- Assumes nothing.
use mathlib.Core.Path.{◌≡◌, refl, sym, ap, subst, ◌∙◌}
use Prim.Native.Nat.{ℕ, suc, ◌+◌, ◌*◌, ◌≤◌, ◌<◌}
use native.Mathlib.Nat.{le_refl, not-le_of_lt}
use native.Mathlib.Omega.{arith}
use lib.Dec.{T, lit≤}
use Rattle.pairs.proofs.Search.{root_down_passes, root_down_next}
use Rattle.chain.specs.Flux.{flux_of}
use Rattle.exact.proofs.Demand3.{demand_3}
use Rattle.planning.specs.declared.scenario.Scenario.{Scenario}
use Rattle.planning.specs.declared.grid.Grid.{Grid}
use Rattle.planning.specs.Scenario.{at_distance}
use Rattle.planning.specs.Distance.{radius_of}
use Rattle.planning.specs.Grid.{squares, centre_distance, rim_distance}
use Rattle.planning.specs.FreePlace.{Shown, refused, own_refusal, is_free, shown_at, walked, free_place_of}
use Rattle.planning.specs.PlaceClaims.{InLimits, Free, FirstFree, NoneFree, PlaceZeros, NeverLonger, PlaceClaims}
use Rattle.chain.proofs.Limits.{never_above_19}
use Rattle.planning.proofs.SameState.{never_14}
use Rattle.planning.proofs.Radius.{area_covered}
use Rattle.planning.proofs.Walk as walk
use Rattle.planning.proofs.Walk.{NotFree, nowhere, found, by_walk}
use Rattle.planning.proofs.PlaceOutcomes.{own_state, is_42, own, walks, by_outcome}

refused_zeros : {n : ℕ} → PlaceZeros (refused n)
refused_zeros = record { row = refl; place = refl; low = refl; high = refl }

-- ---- distances
pub whole_part :
    (G : Grid) (row place : ℕ)
    → ((centre_distance G row place).0 * (centre_distance G row place).0 ≤ squares G row place)
    × (squares G row place < suc (centre_distance G row place).0 * suc (centre_distance G row place).0)
unfolding centre_distance
whole_part G row place = (root_down_passes (squares G row place), root_down_next (squares G row place))

module _ (S : Scenario) (G : Grid) (row place : ℕ) where
  -- A rim distance above 0 is what is left of the centre distance.
  reach : 1_000 ≤ (rim_distance S G row place).0 → (rim_distance S G row place).0 + radius_of S.area ≡ (centre_distance G row place).0
  unfolding rim_distance
  reach l = omega arith

  never_longer : NeverLonger S G row place
  never_longer =
      record {
        radius = area_covered S.area;
        reach = λ c. subst (λ (x : ℕ). x * x ≤ squares G row place) (sym (reach c.least)) (whole_part G row place).0;
      }

module _ (S : Scenario) (limit : ℕ) (G : Grid) where
  state_of : {a : Shown} → free_place_of S limit G ≡ a → (free_place_of S limit G).state ≡ a.state
  state_of e = ap (λ (s : Shown). s.state) e

  accepted_at : own_refusal S ≡ 0 → (d : ℕ) → 1_000 ≤ d → d ≤ 200_000 → (flux_of (at_distance S d)).state ≡ 0
  accepted_at z d l h = sym (own_state S d l h) ∙ z

  -- ---- what the walk shows
  NoFree : Type 0
  NoFree = (row place : ℕ) → row < G.rows → place < G.points → NotFree S limit G row place

  answer :
      own_refusal S ≡ 0 → (row place : ℕ) → row < G.rows → place < G.points → T (is_free S limit G row place)
      → ((r p : ℕ) → r < row → p < G.points → NotFree S limit G r p) → ((p : ℕ) → p < place → NotFree S limit G row p)
      → FirstFree S limit G (shown_at S G row place)
  answer z row place l k t rows places =
      let c = walk.considered S limit G row place t in
      let accepted = accepted_at z _ c.least c.most in
      record {
        free = record { there = record { row_there = l; place_there = k }; considered = c; accepted = accepted; high = walk.keeps S limit G row place t };
        rows_before = λ r p m q. walk.unfit S limit G r p (rows r p m q);
        before_in_row = λ p m. walk.unfit S limit G row p (places p m);
        low = refl;
        high = refl;
        exact = demand_3 (at_distance S (rim_distance S G row place).0) accepted;
      }

  none_free : InLimits G → own_refusal S ≡ 0 → NoFree → NoneFree S limit G
  unfolding NoFree
  none_free g z n =
      record { limits = g; accepted = accepted_at z; unfit = λ row place i. walk.unfit S limit G row place (n row place i.row_there i.place_there) }

  -- What holds of each outcome holds of what is shown: 42, a refusal of the flux, 43, or an answer.
  by_shown :
      (P : Shown → Type 0) → ((InLimits G → ⊥) → P (refused 42)) → (InLimits G → (n : ℕ) → 0 < n → own_refusal S ≡ n → P (refused n))
      → (NoneFree S limit G → P (refused 43))
      → (InLimits G → (row place : ℕ) → FirstFree S limit G (shown_at S G row place) → P (shown_at S G row place)) → P (free_place_of S limit G)
  unfolding NoFree
  by_shown P out number none one =
      by_outcome S limit G (P (free_place_of S limit G)) (λ e. subst P (sym (is_42 S limit G e)) (out e))
      (λ g n p e. subst P (sym (own S limit G g n p e)) (number g n p e))
      (λ g z. subst P (sym (walks S limit G g z))
      (by_walk S limit G (P (walked S limit G)) (λ n. subst P (sym (nowhere S limit G n)) (none (none_free g z n)))
      (λ row place l k t rows places. subst P (sym (found S limit G row place l k t rows places)) (one g row place (answer z row place l k t rows places)))))

  out : (InLimits G → ⊥) → (free_place_of S limit G).state ≡ 42
  out n = by_shown (λ s. s.state ≡ 42) (λ e. refl) (λ g m p e. absurd (n g)) (λ x. absurd (n x.limits)) (λ g row place a. absurd (n g))

  only_out : (free_place_of S limit G).state ≡ 42 → InLimits G → ⊥
  only_out =
      by_shown (λ s. s.state ≡ 42 → InLimits G → ⊥) (λ n h. n) (λ g n p e h _. never_above_19 _ 42 (lit≤ tt) (e ∙ h))
      (λ x h g. omega (arith, h)) (λ g row place a h _. omega (arith, h))

  flux_next : InLimits G → (d n : ℕ) → 1_000 ≤ d → d ≤ 200_000 → (flux_of (at_distance S d)).state ≡ suc n → (free_place_of S limit G).state ≡ suc n
  flux_next g d n l h e = state_of (own S limit G g (suc n) (omega arith) (own_state S d l h ∙ e))

  not_14 : (free_place_of S limit G).state ≡ 14 → ⊥
  not_14 =
      by_shown (λ s. s.state ≡ 14 → ⊥) (λ e h. omega (arith, h)) (λ g n p e h. never_14 S 200_000 (lit≤ tt) (le_refl _) (e ∙ h))
      (λ x h. omega (arith, h)) (λ g row place a h. omega (arith, h))

  is_43 : NoneFree S limit G → (free_place_of S limit G).state ≡ 43
  is_43 x =
      state_of
      (walks S limit G x.limits (own_state S 200_000 (lit≤ tt) (le_refl _) ∙ x.accepted 200_000 (lit≤ tt) (le_refl _))
      ∙ nowhere S limit G (λ row place l k. walk.not_free S limit G row place (x.unfit row place (record { row_there = l; place_there = k }))))

  only_43 : (free_place_of S limit G).state ≡ 43 → NoneFree S limit G
  only_43 =
      by_shown (λ s. s.state ≡ 43 → NoneFree S limit G) (λ e h. absurd (omega (arith, h))) (λ g n p e h. absurd (never_above_19 _ 43 (lit≤ tt) (e ∙ h)))
      (λ x h. x) (λ g row place a h. absurd (omega (arith, h)))

  some : (row place : ℕ) → InLimits G → Free S limit G row place → (free_place_of S limit G).state ≡ 0
  some row place g f =
      let c = f.considered in
      by_shown (λ s. s.state ≡ 0) (λ n. absurd (n g))
      (λ g n p e. sym e ∙ own_state S _ c.least c.most ∙ f.accepted)
      (λ x. absurd (not-le_of_lt (x.unfit row place f.there c) f.high)) (λ g row place a. refl)

  answered : (free_place_of S limit G).state ≡ 0 → FirstFree S limit G (free_place_of S limit G)
  answered =
      by_shown (λ s. s.state ≡ 0 → FirstFree S limit G s) (λ e h. absurd (omega (arith, h))) (λ g n p e h. absurd (omega (arith, h, p)))
      (λ x h. absurd (omega (arith, h))) (λ g row place a h. a)

  zeros : (n : ℕ) → (free_place_of S limit G).state ≡ suc n → PlaceZeros (free_place_of S limit G)
  zeros n =
      by_shown (λ s. s.state ≡ suc n → PlaceZeros s) (λ e h. refused_zeros) (λ g m p e h. refused_zeros) (λ x h. refused_zeros)
      (λ g row place a h. absurd (omega (arith, h)))

pub claims : PlaceClaims
claims =
    record {
      outside = out;
      only_outside = only_out;
      flux_next = flux_next;
      never_14 = not_14;
      none = is_43;
      only_none = only_43;
      free = some;
      answered = answered;
      zeros = zeros;
      whole_part = whole_part;
      never_longer = never_longer;
    }
