-- The walk over a grid: what it finds, said without it. A place is free, or it is passed over or over the limit; the walk shows the first
-- that is free, row by row, or 43 where none is. From the laws of the least number that passes. Assumes nothing.
use mathlib.Core.Path.{◌≡◌, sym, ap, subst, ◌∙◌}
use mathlib.Core.Bool.{Bool}
use Prim.Native.Nat.{ℕ, suc, ◌≤◌, ◌<◌}
use native.Mathlib.Nat.{le_refl, le_of_lt, lt_of_not-le, not-le_of_lt, lt_of_le_of_lt}
use native.Mathlib.Decide.{dec_le}
use native.Mathlib.Omega.{arith}
use Rattle.std.proofs.lemmas.Bool.Decides.{nat_tests}
use lib.Dec.{T, ltb, ltb→lt, lt→ltb}
use borrow.Author.Tests.{le-leb, lt-leb}
use Rattle.pairs.proofs.Search.{least_reached, least_bound, least_first, least_none}
use Rattle.planning.specs.declared.scenario.Scenario.{Scenario}
use Rattle.planning.specs.declared.grid.Grid.{Grid}
use Rattle.planning.specs.Grid.{rim_distance}
use Rattle.planning.specs.FreePlace.{refused, flux_from, is_free, first_in_row, first_row, shown_at, walked}
use Rattle.planning.specs.PlaceClaims.{Considered, Unfit}

module _ (S : Scenario) (limit : ℕ) (G : Grid) where
  -- ---- one place
  pub considered : (row place : ℕ) → T (is_free S limit G row place) → Considered S G row place
  unfolding is_free
  considered row place t = grind (arith, nat_tests)

  pub keeps : (row place : ℕ) → T (is_free S limit G row place) → (flux_from S (rim_distance S G row place)).high ≤ limit
  unfolding is_free
  keeps row place t = grind (arith, nat_tests)

  pub free : (row place : ℕ) → Considered S G row place → (flux_from S (rim_distance S G row place)).high ≤ limit → T (is_free S limit G row place)
  unfolding is_free
  free row place c k = grind (arith, nat_tests)

  -- Not free: passed over, or over the limit.
  abbrev pub NotFree : ℕ → ℕ → Type 0
  NotFree row place = T (is_free S limit G row place) → ⊥

  pub unfit : (row place : ℕ) → NotFree row place → Unfit S limit G row place
  unfit row place n c = let over = lt_of_not-le (λ k. n (free row place c k)) in omega (arith, over)

  pub not_free : (row place : ℕ) → Unfit S limit G row place → NotFree row place
  not_free row place h t = not-le_of_lt (h (considered row place t)) (keeps row place t)

  -- ---- one row, and all rows
  abbrev has_free : ℕ → Bool
  has_free row = ltb (first_in_row S limit G row) G.points

  first_is_free : (row : ℕ) → first_in_row S limit G row < G.points → T (is_free S limit G row (first_in_row S limit G row))
  unfolding first_in_row
  first_is_free row = least_reached (is_free S limit G row) G.points

  before_first : (row place : ℕ) → place < first_in_row S limit G row → NotFree row place
  unfolding first_in_row
  before_first row place l t = not-le_of_lt l (least_bound (is_free S limit G row) G.points place t)

  row_with : (row place : ℕ) → place < G.points → T (is_free S limit G row place) → T (has_free row)
  unfolding first_in_row
  row_with row place l t = lt→ltb _ G.points (lt_of_le_of_lt (least_bound (is_free S limit G row) G.points place t) l)

  row_without : (row : ℕ) → (T (has_free row) → ⊥) → (place : ℕ) → place < G.points → NotFree row place
  row_without row n place l t = n (row_with row place l t)

  none_in_row : (row : ℕ) → ((place : ℕ) → place < G.points → NotFree row place) → T (has_free row) → ⊥
  none_in_row row n t = let l = ltb→lt (first_in_row S limit G row) G.points t in n _ l (first_is_free row l)

  -- ---- what the walk shows
  pub nowhere : ((row place : ℕ) → row < G.rows → place < G.points → NotFree row place) → walked S limit G ≡ refused 43
  unfolding walked first_row
  nowhere n =
      let e : first_row S limit G ≡ G.rows = least_none has_free G.rows (λ row l. none_in_row row (λ place k. n row place l k)) in
      rw (le-leb G.rows (first_row S limit G) (subst (λ x. G.rows ≤ x) (sym e) (le_refl G.rows)))

  pub found :
      (row place : ℕ) → row < G.rows → place < G.points → T (is_free S limit G row place)
      → ((r p : ℕ) → r < row → p < G.points → NotFree r p) → ((p : ℕ) → p < place → NotFree row p)
      → walked S limit G ≡ shown_at S G row place
  unfolding walked first_row first_in_row
  found row place l k t rows places =
      let e : first_row S limit G ≡ row = least_first has_free G.rows row (le_of_lt l) (row_with row place k t) (λ r m. none_in_row r (λ p q. rows r p m q)) in
      let f : first_in_row S limit G row ≡ place = least_first (is_free S limit G row) G.points place (le_of_lt k) t places in
      rw (lt-leb G.rows (first_row S limit G) (subst (λ x. x < G.rows) (sym e) l))
      (ap (λ x. shown_at S G x (first_in_row S limit G x)) e ∙ ap (shown_at S G row) f)

  -- There is no other outcome.
  pub by_walk :
      (P : Type 0) → (((row place : ℕ) → row < G.rows → place < G.points → NotFree row place) → P)
      → ((row place : ℕ) → row < G.rows → place < G.points → T (is_free S limit G row place)
      → ((r p : ℕ) → r < row → p < G.points → NotFree r p) → ((p : ℕ) → p < place → NotFree row p) → P)
      → P
  unfolding first_row
  by_walk P none one =
      let row = first_row S limit G in
      let before : (r : ℕ) → r < row → T (has_free r) → ⊥ = λ r l t. not-le_of_lt l (least_bound has_free G.rows r t) in
      elim (dec_le (suc row) G.rows) [
        | yes l ↦ (
            let k = ltb→lt (first_in_row S limit G row) G.points (least_reached has_free G.rows l) in
            one row (first_in_row S limit G row) l k (first_is_free row k) (λ r p m q. row_without r (before r m) p q) (before_first row)
            )
        | no l ↦ none (λ r p m q. row_without r (before r (omega (arith, lt_of_not-le l))) p q)
      ]
