-- A grid of one place that is free for each method, face, height and transmissivity, so that nothing is said of no answer at all; and one of
-- each refusal: 42, a refusal of the flux and 43. The pool is that of ISO 24678-7, A.8; its radius is only known to be 25 m at most, and the
-- place is 100 m from its centre. Assumes nothing.
use mathlib.Core.Path.{◌≡◌, subst, ◌∙◌}
use mathlib.Core.Bool.{false}
use Prim.Native.Nat.{ℕ, ◌+◌, ◌≤◌}
use native.Mathlib.Nat.{le_refl}
use native.Mathlib.Omega.{arith}
use lib.Dec.{lit≤, lit<}
use lib.IntN.{ℤ, pos}
use Rattle.pairs.proofs.Search.{self_square, root_down_is}
use Rattle.chain.specs.Flux.{outside, fuel_within, height_outside, limits, flux_of}
use Rattle.chain.proofs.Examples.{each_accepted}
use Rattle.planning.specs.declared.scenario.Scenario.{Scenario}
use Rattle.planning.specs.declared.grid.Grid.{Grid}
use Rattle.planning.specs.Scenario.{at_distance}
use Rattle.planning.specs.Distance.{radius_of}
use Rattle.planning.specs.Grid.{centre_distance, rim_distance}
use Rattle.planning.specs.FreePlace.{flux_from, free_place_of}
use Rattle.planning.specs.PlaceClaims.{InLimits, InGrid, Considered}
use Rattle.planning.proofs.SameState.{same_state}
use Rattle.planning.proofs.Radius.{radius_of_most}
use Rattle.planning.proofs.Examples.{example}
use Rattle.planning.proofs.PlaceClaims.{claims}

-- One place, so many mm east of the centre.
abbrev one_place : ℕ → Grid
one_place east = record { rows = 1; points = 1; spacing = 100; east = pos east; north = pos 0 }

one_in_limits : (east : ℕ) → east ≤ 1_000_000 → InLimits (one_place east)
one_in_limits east h =
    record {
      least_rows = le_refl 1;
      most_rows = lit≤ tt;
      least_points = le_refl 1;
      most_points = lit≤ tt;
      least_spacing = le_refl 100;
      most_spacing = lit≤ tt;
      east = h;
      north = lit≤ tt;
    }

module _ (method face : ℕ) (height : ℤ) (transmissivity : ℕ) where
  abbrev S : Scenario
  S = example method face height transmissivity

  far_from_centre : (centre_distance (one_place 100_000) 0 0).0 ≡ 100_000
  unfolding centre_distance
  far_from_centre = root_down_is 10_000_000_000 100_000 (le_refl _) (lit< tt)

  considered : Considered S (one_place 100_000) 0 0
  unfolding rim_distance
  considered =
      let r = radius_of_most 7_854 (lit≤ tt) (lit≤ tt) in
      record { least = omega (arith, far_from_centre, r); most = omega (arith, far_from_centre) }

  at_centre : Considered S (one_place 0) 0 0 → ⊥
  at_centre c =
      omega (arith, self_square ((rim_distance S (one_place 0) 0 0).0 + radius_of 7_854), (claims.never_longer S (one_place 0) 0 0).reach c, c.least)

  module _ (m : outside 1 3 method ≡ false) (f : outside 1 3 face ≡ false) (h : height_outside height ≡ false) (t : outside 1 1_000 transmissivity ≡ false) where
    accepted : (d : ℕ) → 1_000 ≤ d → d ≤ 200_000 → (flux_of (at_distance S d)).state ≡ 0
    accepted d l u = same_state S d 15_000 l u (lit≤ tt) (lit≤ tt) ∙ each_accepted method face height transmissivity m f h t

    -- From each limit that the high figure there keeps.
    pub each_free : (limit : ℕ) → (flux_from S (rim_distance S (one_place 100_000) 0 0)).high ≤ limit → (free_place_of S limit (one_place 100_000)).state ≡ 0
    each_free limit k =
        claims.free S limit (one_place 100_000) 0 0 (one_in_limits 100_000 (lit≤ tt))
        (record {
          there = record { row_there = le_refl 1; place_there = le_refl 1 };
          considered = considered;
          accepted = accepted _ considered.least considered.most;
          high = k;
        })

    -- 43, from any limit: the pool's centre is passed over.
    pub centre_43 : (limit : ℕ) → (free_place_of S limit (one_place 0)).state ≡ 43
    centre_43 limit =
        claims.none S limit (one_place 0)
        (record { limits = one_in_limits 0 (lit≤ tt); accepted = accepted; unfit = λ row place i c. absurd (passed_over row place i c) })
      where
        passed_over : (row place : ℕ) → InGrid (one_place 0) row place → Considered S (one_place 0) row place → ⊥
        passed_over row place i c =
            let r : row ≡ 0 = omega (arith, i.row_there) in
            let p : place ≡ 0 = omega (arith, i.place_there) in
            at_centre (subst (λ x. Considered S (one_place 0) x 0) r (subst (λ y. Considered S (one_place 0) row y) p c))

-- 42, from any scenario and limit: no rows.
pub no_rows_42 : (S : Scenario) (limit : ℕ) (G : Grid) → G.rows ≡ 0 → (free_place_of S limit G).state ≡ 42
no_rows_42 S limit G e = claims.outside S limit G (λ g. omega (arith, e, g.least_rows))

-- 11, a burning rate of 9, from any limit and grid in its limits.
pub low_rate_11 : (S : Scenario) (limit : ℕ) (G : Grid) → InLimits G → S.rate ≡ 9 → (free_place_of S limit G).state ≡ 11
unfolding flux_of limits fuel_within
low_rate_11 S limit G g e = claims.flux_next S limit G g 1_000 10 (le_refl _) (lit≤ tt) (rw e)
