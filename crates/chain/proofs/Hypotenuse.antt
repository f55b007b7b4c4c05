-- The tilted face on rounded pairs: the square of its high end covers those of both walls, so that neither wall's high end is above
-- it; how far a wall's low end can be above its own; and how wide it is, near 0 too. By squares. Assumes nothing.
use mathlib.Core.Path.{◌≡◌}
use Prim.Native.Nat.{ℕ, suc, ◌+◌, ◌*◌, ◌≤◌, ◌<◌}
use native.Mathlib.Nat.{mul-le-mul, mul-le-mul_right, mul-add, add-mul, mul_comm, suc-mul, lt_of_not-le}
use native.Mathlib.Omega.{arith}
use lib.Dec.{lit<}
use Rattle.pairs.specs.declared.answer.Pair.{Pair}
use Rattle.pairs.specs.Rounded as R
use Rattle.pairs.specs.Rounded.{U, up, down, root_down, rounded}
use Rattle.pairs.proofs.Rounding.{up_covers, down_covers}
use Rattle.pairs.proofs.Search.{root_down_next, root_up_passes, root_up_bound}
use Rattle.pairs.proofs.Ordered.{square_cancels}
use Rattle.chain.specs.Chain.{most_exposed}

-- ---- on numbers
square_of_sum : (x y : ℕ) → (x + y) * (x + y) ≡ x * x + 2 * (x * y) + y * y
square_of_sum x y = omega (arith, add-mul x y (x + y), mul-add x x y, mul-add y x y, mul_comm x y)

-- A square that is less than U past that of s + 1: a is less than a million past s.
a_million : (a s : ℕ) → a * a + 2 ≤ suc s * suc s + U → a < s + 1_000_000
a_million a s h =
    lt_of_not-le
    (λ l. omega (arith, h, mul-le-mul l l, square_of_sum s 1_000_000, suc-mul s (suc s), mul_comm s (suc s), suc-mul s s))

low_within : (a n : ℕ) → down (a * a) U * U ≤ n → a < root_down n + 1_000_000
low_within a n h = a_million a (root_down n) (omega (arith, h, down_covers (a * a) U (lit< tt), root_down_next n))

-- What the roundings add to the width.
abbrev pub slack : ℕ
slack = 2_000_001

-- The square of a side that grows by w from at most z.
grown : (z a b w : ℕ) → b ≤ a + w → a ≤ z → b * b ≤ a * a + 2 * (z * w) + w * w
grown z a b w h l = omega (arith, mul-le-mul h h, square_of_sum a w, mul-le-mul_right w l)

-- A hypotenuse grows by no more than its two sides do.
module _ (a b c d w v s : ℕ) (h : b ≤ a + w) (k : d ≤ c + v) (low : a * a + c * c + 2 ≤ suc s * suc s + 2 * U) where
  -- Its square is past that of s + 1 by more than the four roundings of two products.
  reach : ℕ
  reach = suc s + 2_000_000

  reach_square : suc s * suc s + 4 * U ≤ reach * reach
  unfolding reach
  reach_square = omega (arith, square_of_sum (suc s) 2_000_000)

  first_side : a ≤ reach
  first_side = square_cancels a reach (omega (arith, low, reach_square))

  second_side : c ≤ reach
  second_side = square_cancels c reach (omega (arith, low, reach_square))

  hypotenuse : b * b + d * d + 2 * U ≤ (s + (w + v + slack)) * (s + (w + v + slack))
  unfolding reach
  hypotenuse =
      rw same
      (omega (
        arith,
        low,
        reach_square,
        grown reach a b w h first_side,
        grown reach c d v k second_side,
        square_of_sum reach (w + v),
        mul-add reach w v,
        square_of_sum w v,
      ))
    where
      same : s + (w + v + slack) ≡ reach + (w + v)
      same = omega arith

-- ---- on pairs
-- p beside q: its high end is not above q's, and its low end less than a millionth.
pub record Covered (p q : Pair) : Type 0 where
  pub high : p.high ≤ q.high
  pub low : p.low < q.low + 1_000_000

module _ (upright level : Pair) where
  abbrev exposed : Pair
  exposed = most_exposed rounded upright level

  -- The square of the high end covers those of the walls' high ends.
  covers : upright.high * upright.high + level.high * level.high ≤ exposed.high * exposed.high
  unfolding most_exposed R.root R.sum R.product
  covers =
      let b = upright.high in
      let d = level.high in
      omega (arith, up_covers (b * b) U (lit< tt), up_covers (d * d) U (lit< tt), root_up_passes ((up (b * b) U + up (d * d) U) * U))

  -- The square of the low end and 1 reaches those of the walls' low ends, but for the two roundings.
  reaches : upright.low * upright.low + level.low * level.low + 2 ≤ suc exposed.low * suc exposed.low + 2 * U
  unfolding most_exposed R.root R.sum R.product
  reaches =
      let a = upright.low in
      let c = level.low in
      omega (arith, down_covers (a * a) U (lit< tt), down_covers (c * c) U (lit< tt), root_down_next ((down (a * a) U + down (c * c) U) * U))

  pub upright_covered : Covered upright exposed
  unfolding most_exposed R.root R.sum R.product
  upright_covered = record { high = square_cancels _ _ (omega (arith, covers)); low = low_within upright.low _ (omega arith) }

  pub level_covered : Covered level exposed
  unfolding most_exposed R.root R.sum R.product
  level_covered = record { high = square_cancels _ _ (omega (arith, covers)); low = low_within level.low _ (omega arith) }

  -- No wider than both walls and some two millionths.
  pub exposed_near :
      (w v : ℕ) → upright.high ≤ upright.low + w → level.high ≤ level.low + v → exposed.high ≤ exposed.low + (w + v + slack)
  unfolding most_exposed R.root R.sum R.product up
  exposed_near w v h k =
      let b = upright.high in
      let d = level.high in
      root_up_bound ((up (b * b) U + up (d * d) U) * U) (exposed.low + (w + v + slack))
      (omega (arith, hypotenuse upright.low b level.low d w v exposed.low h k reaches))
