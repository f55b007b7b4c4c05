-- Step 7, the configuration factor at any height: rounded and exact overlap at every depth from 8 on, where e is at least 1/256.
-- Its divisors are sums with 1 or 2, and roots of products and sums of squares of e and e + 2. Assumes nothing.
use mathlib.Core.Path.{refl}
use mathlib.Core.Bool.{Bool}
use Prim.Native.Nat.{ℕ, zero, ◌≤◌, ◌<◌}
use native.Mathlib.Nat.{mul-pos}
use native.Mathlib.Omega.{arith}
use lib.Dec.{lit<, eqb}
use Rattle.pairs.specs.Figures.{Figures}
use Rattle.pairs.specs.Answers.{answers}
use Rattle.pairs.specs.Answers as answer
use Rattle.pairs.specs.Series.{pi}
use Rattle.pairs.proofs.Kept.{choice_kept}
use Rattle.chain.specs.Chain.{x, g, r, u, v, tilt, height_angle, vertical_ratio, vertical, horizontal_ratio, horizontal, most_exposed, by_face, vertical_above, horizontal_above, vertical_below, horizontal_below, factor_at}
use Rattle.exact.specs.Fraction.{Fraction, ◌⊑◌, ◌⊗◌, power}
use Rattle.exact.specs.Depth as depth
use Rattle.exact.specs.Depth.{Bracket, exact}
use Rattle.exact.proofs.Order.{◌⟫◌, ⊕-left, ⊕-right, ⊗-mono, 1-⊗, above_from, whole_above_0}
use Rattle.exact.proofs.Root.{one_256th, root_above_0}
use Rattle.exact.proofs.Sound.{Positive}
use Rattle.exact.proofs.Meets.{Meets, constant_meets, sum_meets, difference_meets, product_meets, quotient_meets, root_meets}
use Rattle.exact.proofs.Arc.{one_meets, one_and_more, atan_meets, pi_meets, pi_low}

pub pi_positive : (n : ℕ) → 1 ≤ n → Positive (pi (exact n))
pi_positive n p = above_from (whole_above_0 (lit< tt)) (pi_low n p)

-- ---- the divisors
square_of_256th : (y z : Fraction) → one_256th ⊑ y → one_256th ⊑ z → power one_256th 2 ⊑ y ⊗ z
unfolding power
square_of_256th y z h k = ⊗-mono (1-⊗ ⟫ h) k

one_256th_above_0 : zero < one_256th.num
unfolding one_256th
one_256th_above_0 = lit< tt

module _ (n : ℕ) (deep : 8 ≤ n) (l e : Bracket) (away : one_256th ⊑ e.low) where
  e_positive : Positive e
  e_positive = above_from one_256th_above_0 away

  g_away : one_256th ⊑ (g (exact n) e).low
  unfolding g depth.sum
  g_away = away ⟫ ⊕-left _ _

  g_positive : Positive (g (exact n) e)
  g_positive = above_from one_256th_above_0 g_away

  x_positive : Positive (x (exact n) e)
  unfolding x
  x_positive = one_and_more n e

  e_g_root_positive : Positive (depth.root 2 n (depth.product e (g (exact n) e)))
  unfolding depth.root depth.product
  e_g_root_positive = root_above_0 1 n deep _ (square_of_256th _ _ away g_away)

  u_positive : Positive (u (exact n) l e)
  unfolding u depth.root depth.sum depth.product
  u_positive = root_above_0 1 n deep _ (square_of_256th _ _ g_away g_away ⟫ ⊕-right _ _)

  v_positive : Positive (v (exact n) l e)
  unfolding v depth.root depth.sum depth.product
  v_positive = root_above_0 1 n deep _ (square_of_256th _ _ away away ⟫ ⊕-right _ _)

  u_v_positive : Positive (depth.product (u (exact n) l e) (v (exact n) l e))
  unfolding depth.product ◌⊗◌
  u_v_positive = mul-pos u_positive v_positive

-- ---- the factor
module _ (n : ℕ) (deep : 8 ≤ n) {a b : Figures} {l e : Bracket} (away : one_256th ⊑ e.low) (L : Meets a l) (E : Meets b e) where
  x_meets : Meets (x answers b) (x (exact n) e)
  unfolding x
  x_meets = sum_meets (one_meets n) E

  g_meets : Meets (g answers b) (g (exact n) e)
  unfolding g
  g_meets = sum_meets E (constant_meets 2 1 (lit< tt) refl)

  r_meets : Meets (r answers b) (r (exact n) e)
  unfolding r
  r_meets = root_meets (quotient_meets E g_meets (g_positive n deep l e away)) n

  u_meets : Meets (u answers a b) (u (exact n) l e)
  unfolding u
  u_meets = root_meets (sum_meets (product_meets L L) (product_meets g_meets g_meets)) n

  v_meets : Meets (v answers a b) (v (exact n) l e)
  unfolding v
  v_meets = root_meets (sum_meets (product_meets L L) (product_meets E E)) n

  tilt_meets : Meets (tilt answers a b) (tilt (exact n) l e)
  unfolding tilt
  tilt_meets = atan_meets n deep (quotient_meets (product_meets r_meets u_meets) v_meets (v_positive n deep l e away))

  l_x_meets : Meets (answer.quotient a (x answers b)) (depth.quotient l (x (exact n) e))
  l_x_meets = quotient_meets L x_meets (x_positive n deep l e away)

  u_v_meets : Meets (answer.product (u answers a b) (v answers a b)) (depth.product (u (exact n) l e) (v (exact n) l e))
  u_v_meets = product_meets u_meets v_meets

  height_angle_meets : Meets (height_angle answers a b) (height_angle (exact n) l e)
  unfolding height_angle
  height_angle_meets =
      quotient_meets
      (atan_meets n deep (quotient_meets L (root_meets (product_meets E g_meets) n) (e_g_root_positive n deep l e away)))
      x_meets (x_positive n deep l e away)

  vertical_ratio_meets : Meets (vertical_ratio answers a b) (vertical_ratio (exact n) l e)
  unfolding vertical_ratio
  vertical_ratio_meets =
      quotient_meets (sum_meets (sum_meets (product_meets L L) (product_meets x_meets x_meets)) (one_meets n)) u_v_meets
      (u_v_positive n deep l e away)

  vertical_meets : Meets (vertical answers a b) (vertical (exact n) l e)
  unfolding vertical
  vertical_meets =
      quotient_meets
      (difference_meets (sum_meets height_angle_meets (product_meets (product_meets l_x_meets vertical_ratio_meets) tilt_meets))
      (product_meets l_x_meets (atan_meets n deep r_meets)))
      (pi_meets n deep) (pi_positive n (omega arith))

  horizontal_ratio_meets : Meets (horizontal_ratio answers a b) (horizontal_ratio (exact n) l e)
  unfolding horizontal_ratio
  horizontal_ratio_meets =
      quotient_meets (sum_meets (product_meets L L) (product_meets E g_meets)) u_v_meets (u_v_positive n deep l e away)

  horizontal_meets : Meets (horizontal answers a b) (horizontal (exact n) l e)
  unfolding horizontal
  horizontal_meets =
      quotient_meets
      (difference_meets (atan_meets n deep (root_meets (quotient_meets g_meets E (e_positive n deep l e away)) n))
      (product_meets horizontal_ratio_meets tilt_meets))
      (pi_meets n deep) (pi_positive n (omega arith))

-- ---- at a height
most_exposed_meets :
    (n : ℕ) {f k : Figures} {y z : Bracket} → Meets f y → Meets k z → Meets (most_exposed answers f k) (most_exposed (exact n) y z)
unfolding most_exposed
most_exposed_meets n h k = root_meets (sum_meets (product_meets h h) (product_meets k k)) n

by_face_meets :
    (n face : ℕ) {f k : Figures} {y z : Bracket} → Meets f y → Meets k z → Meets (by_face answers face f k) (by_face (exact n) face y z)
unfolding by_face
by_face_meets n face h k = choice_kept Meets (eqb face 1) h (choice_kept Meets (eqb face 2) k (most_exposed_meets n h k))

pub factor_at_meets :
    (n : ℕ) → 8 ≤ n → {a c b : Figures} {l h e : Bracket} → one_256th ⊑ e.low → Meets a l → Meets c h → Meets b e
    → (up : Bool) (face : ℕ) → Meets (factor_at answers up face a c b) (factor_at (exact n) up face l h e)
unfolding factor_at vertical_above horizontal_above vertical_below horizontal_below
factor_at_meets n deep away L H E up face =
    let between = difference_meets L H in
    let beyond = difference_meets H L in
    let together = sum_meets L H in
    choice_kept Meets up
    (by_face_meets n face
    (difference_meets (sum_meets (vertical_meets n deep away H E) (vertical_meets n deep away between E))
    (vertical_meets n deep away beyond E))
    (horizontal_meets n deep away between E))
    (by_face_meets n face (difference_meets (vertical_meets n deep away together E) (vertical_meets n deep away H E))
    (difference_meets (horizontal_meets n deep away together E) (horizontal_meets n deep away H E)))
