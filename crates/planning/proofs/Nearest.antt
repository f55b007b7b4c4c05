-- The smallest distance from which the limit is kept: what it keeps, what it is at most, and the law that names it without a search.
-- From the laws of the least number that passes. Assumes nothing.
use mathlib.Core.Path.{◌≡◌}
use Prim.Native.Nat.{ℕ, suc, ◌-◌, ◌≤◌, ◌<◌}
use native.Mathlib.Nat.{le_refl}
use native.Mathlib.Omega.{arith}
use Rattle.std.proofs.lemmas.Bool.Decides.{nat_tests}
use lib.Dec.{T, leb, leb→le}
use lib.Ieee.Fits.{and_l, and_r}
use Rattle.pairs.proofs.Search.{least_within, least_passes, least_bound}
use Rattle.planning.specs.declared.scenario.Scenario.{Scenario}
use Rattle.planning.specs.StandOff.{flux_at, keeps, keeps_from, far_enough, stand_off}
use Rattle.planning.proofs.Every.{each, all}

module _ (S : Scenario) (limit : ℕ) where
  -- ---- the limit is kept from d to 2,000 decimetres
  pub keeps_each : (d : ℕ) → T (keeps_from S limit d) → (x : ℕ) → d ≤ x → x ≤ 2_000 → (flux_at S x).high ≤ limit
  unfolding keeps_from keeps
  keeps_each d t x l h = grind (arith, nat_tests, each (keeps S limit) d (2_000 - d) t x)

  pub keeps_all : (d : ℕ) → d ≤ 2_000 → ((x : ℕ) → d ≤ x → x ≤ 2_000 → (flux_at S x).high ≤ limit) → T (keeps_from S limit d)
  unfolding keeps_from keeps
  keeps_all d h k = all (keeps S limit) d (2_000 - d) (λ x l m. grind (arith, nat_tests, k x))

  pub keeps_farthest : (flux_at S 2_000).high ≤ limit → T (keeps_from S limit 2_000)
  keeps_farthest k = keeps_all 2_000 (le_refl 2_000) (λ x l h. grind arith)

  -- One decimetre nearer.
  pub keeps_nearer : (d x : ℕ) → suc x ≡ d → d ≤ 2_000 → T (keeps_from S limit d) → (flux_at S x).high ≤ limit → T (keeps_from S limit x)
  keeps_nearer d x n h t k =
      keeps_all x (omega arith) (λ y l m. grind (arith, keeps_each d t y))

  -- ---- the smallest such distance
  pub record Found : Type 0 where
    pub least : 10 ≤ stand_off S limit
    pub most : stand_off S limit ≤ 2_000
    pub keeps : T (keeps_from S limit (stand_off S limit))

  pub found : (d : ℕ) → d ≤ 2_000 → T (far_enough S limit d) → Found
  unfolding far_enough stand_off
  found d h t =
      let g = stand_off S limit in
      let p = least_passes (far_enough S limit) 2_000 d h t in
      record {
        least = leb→le 10 g (and_l (leb 10 g) _ p);
        most = least_within (far_enough S limit) 2_000;
        keeps = and_r (leb 10 g) _ p;
      }

  pub at_most : (d : ℕ) → T (far_enough S limit d) → stand_off S limit ≤ d
  unfolding stand_off
  at_most d t = least_bound (far_enough S limit) 2_000 d t

  pub enough : (d : ℕ) → 10 ≤ d → T (keeps_from S limit d) → T (far_enough S limit d)
  unfolding far_enough
  enough d l t = grind (arith, nat_tests)

  pub stand_off_is :
      (d : ℕ) → 10 ≤ d → d ≤ 2_000 → T (keeps_from S limit d) → (10 < d → limit < (flux_at S (d - 1)).high) → stand_off S limit ≡ d
  stand_off_is d l h t before =
      let f = found d h (enough d l t) in
      grind (arith, at_most d (enough d l t), keeps_each (stand_off S limit) f.keeps (d - 1))
