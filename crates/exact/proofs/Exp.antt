-- exp(-y): the rounded one overlaps the exact one at every depth from 8 on. The terms fall since y over 256 is at most 1 wherever exp
-- is not refused; from 20 on the exact low end is at most the cold pair's high end, by the series on seven pairs end to end. Assumes nothing.
use mathlib.Core.Path.{◌≡◌}
use mathlib.Core.Bool.{Bool, ◌&&◌}
use mathlib.Core.List.{List, [], ◌∷◌}
use mathlib.Core.Logic.{inl, inr}
use Prim.Native.Nat.{ℕ, zero, suc, ◌*◌, ◌≤◌, ◌<◌}
use native.Mathlib.Nat.{zero-lt-suc, le_refl, le_of_lt, not-le_of_lt}
use lib.Dec.{T, lit<, lit≤, leb, eqb, leb→le, eqb→eq}
use lib.Ieee.Fits.{and_l, and_r}
use Rattle.pairs.specs.declared.answer.Pair.{Pair}
use Rattle.pairs.specs.Figures.{Figures, given}
use Rattle.pairs.specs.Rounded as rounded
use Rattle.pairs.specs.Rounded.{U, ends, is_cold, up, down}
use Rattle.pairs.specs.Answers.{answers}
use Rattle.pairs.specs.Answers as answer
use Rattle.pairs.specs.Series.{plus_terms, minus_terms, alternating, exp_term, squared, exp_series, exp_neg}
use Rattle.exact.specs.Fraction.{◌⊑◌, whole, ◌⊕◌, ◌⊖◌, ◌⊗◌, ◌⊘◌}
use Rattle.exact.specs.Depth as depth
use Rattle.exact.specs.Depth.{Bracket, exact}
use Rattle.exact.proofs.Order.{◌⟫◌, ⊏→⊑, either, ⊗-mono, ⊗-1, over_mono, over_falls}
use Rattle.exact.proofs.Overlap.{Overlap, trillionths, trillionths_mono}
use Rattle.exact.proofs.Sound.{Sound}
use Rattle.exact.proofs.Passing.{product_second, over_first}
use Rattle.exact.proofs.Meets.{Meets, unless_cold_meets, product_meets, over_meets}
use Rattle.exact.proofs.Spans.{256_U_is_256, below_256_meets, below_256_high, below_256_bound}
use Rattle.exact.proofs.Arc.{one_meets}
use Rattle.exact.proofs.Alternating.{alternating_meets}

module _ (n : ℕ) {a : Figures} {z : Bracket} (h : Meets a z) where
  exp_term_meets : (j : ℕ) → Meets (exp_term answers a j) (exp_term (exact n) z j)
  unfolding exp_term
  exp_term_meets zero = one_meets n
  exp_term_meets (suc j) = over_meets (product_meets (exp_term_meets j) h) (suc j) (zero-lt-suc j)

  exp_terms_fall : z.low ⊑ whole 1 → (j : ℕ) → (exp_term (exact n) z (suc j)).low ⊑ (exp_term (exact n) z j).high
  unfolding exp_term depth.over depth.product
  exp_terms_fall small j = over_falls (suc j) (zero-lt-suc j) ⟫ ⊗-mono (exp_term_meets j).sound.ordered small ⟫ ⊗-1

exp_term_passes : (a : Figures) → (exp_term answers (answer.over a 256) 1).number ≡ 0 → a.number ≡ 0
unfolding exp_term
exp_term_passes a h = over_first _ _ (product_second _ _ (over_first _ _ h))

equal : whole 256 ⊘ whole 256 ⊑ whole 1
unfolding ◌⊘◌ whole
equal = record { cross = lit≤ tt }

one_256th : (y : Bracket) → y.low ⊑ whole 256 → (depth.over y 256).low ⊑ whole 1
unfolding depth.over
one_256th y h = over_mono 256 256 (lit< tt) (le_refl 256) h ⟫ equal

squared_meets : (n k : ℕ) {a : Figures} {x : Bracket} → Meets a x → Meets (squared answers k a) (squared (exact n) k x)
unfolding squared
squared_meets n zero h = h
squared_meets n (suc k) h = squared_meets n k (product_meets h h)

-- The series, wherever y is at most 256.
exp_series_meets :
    (n : ℕ) → 8 ≤ n → {a : Figures} {y : Bracket} → Meets a y → (a.number ≡ 0 → y.low ⊑ whole 256)
    → Meets (exp_series answers a) (exp_series (exact n) y)
unfolding exp_series
exp_series_meets n deep {a} {y} h small =
    squared_meets n 8
    (alternating_meets n deep _ _ (exp_term_meets n z) (λ u. exp_terms_fall n z (one_256th y (small (exp_term_passes a u)))))
  where
    z : Meets (answer.over a 256) (depth.over y 256)
    z = over_meets h 256 (lit< tt)

-- ---- from 20 on
-- Numbers after 20, up to 256, so near one another that the series on the pair from each to the next is at most 2,062 trillionths.
abbrev up_to_256 : List ℕ
up_to_256 =
    20_004_800_000_000
    ∷ 20_066_000_000_000
    ∷ 20_830_000_000_000
    ∷ 28_600_000_000_000
    ∷ 68_000_000_000_000
    ∷ 150_000_000_000_000
    ∷ 256_000_000_000_000
    ∷ []

unfoldable small_between : ℕ → ℕ → Bool
small_between a b = let x = exp_series answers (given (ends a b)) in eqb x.number 0 && leb x.pair.high 2_062

abbrev small_along : ℕ → List ℕ → Bool
small_along a [] = small_between a a
small_along a (b ∷ bs) = small_between a b && small_along b bs

abbrev end_of : ℕ → List ℕ → ℕ
end_of a [] = a
end_of a (b ∷ bs) = end_of b bs

all_small : T (small_along (20 * U) up_to_256)
unfolding small_between exp_series squared alternating plus_terms minus_terms exp_term answer.constant answer.sum answer.sum_of answer.difference answer.difference_of answer.product answer.product_of answer.over answer.over_of answer.high_only answer.high_only_of answer.fitting rounded.constant rounded.sum rounded.difference rounded.product rounded.over rounded.high_only up down
all_small = tt

module _ (n : ℕ) (deep : 8 ≤ n) (y : Bracket) (s : Sound y) (below : y.low ⊑ whole 256) where
  abbrev Small : Type 0
  Small = (exp_series (exact n) y).low ⊑ trillionths 2_062

  -- A pair that y overlaps, and that the series is small on.
  on_pair : (a b : ℕ) → T (small_between a b) → trillionths a ⊑ y.high → y.low ⊑ trillionths b → Small
  unfolding small_between
  on_pair a b t l h =
      let x = exp_series answers (given (ends a b)) in
      let m = exp_series_meets n deep {a = given (ends a b)} {y = y} (record { sound = s; overlap = λ _. record { low = l; high = h } }) (λ _. below) in
      let t₀ = eqb→eq x.number 0 (and_l (eqb x.number 0) (leb x.pair.high 2_062) t) in
      let t₁ = leb→le x.pair.high 2_062 (and_r (eqb x.number 0) (leb x.pair.high 2_062) t) in
      (m.overlap t₀).high ⟫ trillionths_mono t₁

  -- Of the pairs from a on, one that y's low end lies in or before.
  along : (a : ℕ) (bs : List ℕ) → T (small_along a bs) → trillionths a ⊑ y.high → y.low ⊑ trillionths (end_of a bs) → Small
  along a [] t l h = on_pair a a t l h
  along a (b ∷ bs) t l h =
      elim (either y.low (trillionths b)) [
        | inl p ↦ on_pair a b (and_l (small_between a b) (small_along b bs) t) l p
        | inr p ↦ along b bs (and_r (small_between a b) (small_along b bs) t) (⊏→⊑ p ⟫ s.ordered) h
      ]

-- Request 8, why the cold pair will do: at every depth from 8 the exact exp(-y) of a bracket that overlaps a pair from 20 up, and below
-- 256, has a low end of at most 2,062 trillionths.
pub cold_low :
    (n : ℕ) → 8 ≤ n → (p : Pair) (y : Bracket) → Sound y → Overlap p y → 20 * U ≤ p.low → p.high < 256 * U
    → (exp_neg (exact n) y).low ⊑ trillionths 2_062
unfolding exp_neg depth.unless_cold
cold_low n deep p y s o cold fits =
    let below : y.low ⊑ trillionths (256 * U) = o.high ⟫ trillionths_mono (le_of_lt fits) in
    along n deep y s (below ⟫ 256_U_is_256) (20 * U) up_to_256 all_small (trillionths_mono cold ⟫ o.low) below

-- And why it cannot be smaller: at depth 8 the exact exp(-20) is above 2,061 trillionths.
pub not_2061 : (exp_neg (exact 8) (depth.constant 20 1)).low ⊑ trillionths 2_061 → ⊥
unfolding exp_neg exp_series squared alternating plus_terms minus_terms exp_term depth.constant depth.sum depth.difference depth.product depth.over depth.high_only depth.unless_cold trillionths whole ◌⊕◌ ◌⊖◌ ◌⊗◌ ◌⊘◌
not_2061 h = not-le_of_lt (lit< tt) h.cross

pub exp_neg_meets : (n : ℕ) → 8 ≤ n → {a : Figures} {y : Bracket} → Meets a y → Meets (exp_neg answers a) (exp_neg (exact n) y)
unfolding exp_neg is_cold depth.unless_cold
exp_neg_meets n deep {a} {y} h =
    let t = below_256_meets h in
    unless_cold_meets (answer.below_256 a) y (exp_series_meets n deep t (below_256_bound h))
    (λ u c. cold_low n deep _ y h.sound (t.overlap u) (leb→le (20 * U) _ c) (below_256_high h u))
