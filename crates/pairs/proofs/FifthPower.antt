-- The rounded fifth powers against the plain one, and the fifth root of a pair: its low end is at most its high end, and how
-- far apart they are. Four roundings lose little against the slope of the power (Bernoulli). Assumes nothing.
use mathlib.Core.Path.{◌≡◌, subst}
use Prim.Native.Nat.{ℕ, suc, ◌+◌, ◌*◌, ◌≤◌, ◌<◌}
use native.Mathlib.Nat.{le_trans, le_refl, mul_assoc, mul_comm, mul_left_comm, add-mul, mul-add, add_assoc, add_comm, add_left_comm, mul-le-mul, mul-le-mul_right, add-le-add, le_of_mul-le-mul_right, lt_of_not-le, not-le_of_lt, lt_of_lt_of_le, le-add_right, le_of_lt, le_step, suc-mul}
use native.Mathlib.Decide.{dec_le}
use native.Mathlib.Omega.{arith}
use lib.Dec.{lit<}
use Rattle.pairs.specs.Rounded.{U, up, down, fifth_power_up, fifth_power_down, fifth_root_down, fifth_root_up}
use Rattle.pairs.proofs.Rounding.{up_covers, down_within}
use Rattle.pairs.proofs.Search.{fifth_root_down_passes, fifth_root_down_next, fifth_root_up_passes, fifth_root_up_bound}

pub ruleset ring = (add-mul, mul-add, mul_assoc, mul_comm, mul_left_comm, add_assoc, add_comm, add_left_comm)

abbrev pub fifth : ℕ → ℕ
fifth x = x * x * x * x * x

abbrev pub U⁴ : ℕ
U⁴ = U * (U * (U * U))

-- ---- one rounded product after another, N·x against z·B·K
above : (B K a x N z : ℕ) → a * x ≤ z * B → N ≤ a * K → N * x ≤ z * (B * K)
above B K a x N z h k = simp ring (le_trans (simp ring at (mul-le-mul_right x k)) (simp ring at (mul-le-mul_right K h)))

below : (B K a x N z : ℕ) → z * B ≤ a * x → a * K ≤ N → z * (B * K) ≤ N * x
below B K a x N z h k = simp ring (le_trans (simp ring at (mul-le-mul_right K h)) (simp ring at (mul-le-mul_right x k)))

above_less : (B K a x N z : ℕ) → z * B ≤ a * x + B → a * K ≤ N → z * (B * K) ≤ N * x + B * K
above_less B K a x N z h k = simp ring (omega (arith, simp ring at (mul-le-mul_right K h), simp ring at (mul-le-mul_right x k)))

below_more : (B K a x N e z : ℕ) → a * x ≤ z * B + B → N ≤ a * K + e → N * x ≤ z * (B * K) + (e * x + B * K)
below_more B K a x N e z h k = simp ring (omega (arith, simp ring at (mul-le-mul_right K h), simp ring at (mul-le-mul_right x k)))

up_within : (n : ℕ) → up n U * U ≤ n + U
unfolding up
up_within n = omega arith

down_above : (n : ℕ) → n ≤ down n U * U + U
unfolding down
down_above n = omega arith

covers : (n : ℕ) → n ≤ up n U * U
covers n = up_covers n U (lit< tt)

pub fifth_below_up : (x : ℕ) → fifth x ≤ fifth_power_up x * U⁴
unfolding fifth_power_up
fifth_below_up x =
    let z1 = up (x * x) U in
    let z2 = up (z1 * x) U in
    let z3 = up (z2 * x) U in
    let s2 = above U U z1 x (x * x) z2 (covers (z1 * x)) (covers (x * x)) in
    let s3 = above U (U * U) z2 x (x * x * x) z3 (covers (z2 * x)) s2 in
    above U (U * (U * U)) z3 x (x * x * x * x) (up (z3 * x) U) (covers (z3 * x)) s3

pub down_below_fifth : (x : ℕ) → fifth_power_down x * U⁴ ≤ fifth x
unfolding fifth_power_down
down_below_fifth x =
    let z1 = down (x * x) U in
    let z2 = down (z1 * x) U in
    let z3 = down (z2 * x) U in
    let s2 = below U U z1 x (x * x) z2 (down_within (z1 * x) U) (down_within (x * x) U) in
    let s3 = below U (U * U) z2 x (x * x * x) z3 (down_within (z2 * x) U) s2 in
    below U (U * (U * U)) z3 x (x * x * x * x) (down (z3 * x) U) (down_within (z3 * x) U) s3

-- ---- what four roundings lose, times the fourth power of U
unfoldable pub loss : ℕ → ℕ
loss x = ((U * x + U * U) * x + U * (U * U)) * x + U * (U * (U * U))

expanded : (B C D E x : ℕ) → (((x * x + B) * x + C) * x + D) * x + E ≡ fifth x + (((B * x + C) * x + D) * x + E)
expanded B C D E x = simp ring

up_below_fifth : (x : ℕ) → fifth_power_up x * U⁴ ≤ fifth x + loss x
unfolding fifth_power_up loss
up_below_fifth x =
    let z1 = up (x * x) U in
    let z2 = up (z1 * x) U in
    let z3 = up (z2 * x) U in
    let s2 = above_less U U z1 x (x * x + U) z2 (up_within (z1 * x)) (up_within (x * x)) in
    let s3 = above_less U (U * U) z2 x ((x * x + U) * x + U * U) z3 (up_within (z2 * x)) s2 in
    let s4 = above_less U (U * (U * U)) z3 x (((x * x + U) * x + U * U) * x + U * (U * U)) (up (z3 * x) U) (up_within (z3 * x)) s3 in
    subst (λ (n : ℕ). up (z3 * x) U * U⁴ ≤ n) (expanded U (U * U) (U * (U * U)) (U * (U * (U * U))) x) s4

fifth_below_down : (x : ℕ) → fifth x ≤ fifth_power_down x * U⁴ + loss x
unfolding fifth_power_down loss
fifth_below_down x =
    let z1 = down (x * x) U in
    let z2 = down (z1 * x) U in
    let z3 = down (z2 * x) U in
    let s2 = below_more U U z1 x (x * x) U z2 (down_above (z1 * x)) (down_above (x * x)) in
    let s3 = below_more U (U * U) z2 x (x * x * x) (U * x + U * U) z3 (down_above (z2 * x)) s2 in
    below_more U (U * (U * U)) z3 x (x * x * x * x) ((U * x + U * U) * x + U * (U * U)) (down (z3 * x) U) (down_above (z3 * x)) s3

-- ---- the plain power grows, and at least by its slope
product_less : {a b c d : ℕ} → a < b → c < d → a * c < b * d
product_less {a} {b} {c} {d} h k = lt_of_lt_of_le (omega (arith, suc-mul a (suc c))) (mul-le-mul h k)

fifth_cancels : (s t : ℕ) → fifth s ≤ fifth t → s ≤ t
fifth_cancels s t h =
    elim (dec_le s t) [
      | yes p ↦ p
      | no p ↦
          let l : t < s = lt_of_not-le p in
          absurd (not-le_of_lt (product_less (product_less (product_less (product_less l l) l) l) l) h)
    ]

bernoulli_step : (X A B a d : ℕ) → A + B * d ≤ X → A * a + (A + B * a) * d ≤ X * (a + d)
bernoulli_step X A B a d h = simp ring (omega (arith, simp ring at (mul-le-mul_right (a + d) h)))

-- Five times the fourth power.
abbrev pub slope : ℕ → ℕ
slope a = a * a * a * a + (a * a * a + (a * a + (a + 1 * a) * a) * a) * a

bernoulli : (a d : ℕ) → fifth a + slope a * d ≤ fifth (a + d)
bernoulli a d =
    bernoulli_step _ (a * a * a * a) (a * a * a + (a * a + (a + 1 * a) * a) * a) a d
    (bernoulli_step _ (a * a * a) (a * a + (a + 1 * a) * a) a d
    (bernoulli_step _ (a * a) (a + 1 * a) a d (bernoulli_step _ a 1 a d (omega arith))))

loss_grows : {x y : ℕ} → x ≤ y → loss x ≤ loss y
unfolding loss
loss_grows h =
    add-le-add (mul-le-mul (add-le-add (mul-le-mul (add-le-add (mul-le-mul (le_refl U) h) (le_refl (U * U))) h)
    (le_refl (U * (U * U)))) h) (le_refl (U * (U * (U * U))))

slope_grows : {x y : ℕ} → x ≤ y → slope x ≤ slope y
slope_grows h =
    add-le-add (mul-le-mul (mul-le-mul (mul-le-mul h h) h) h)
    (mul-le-mul (add-le-add (mul-le-mul (mul-le-mul h h) h)
    (mul-le-mul (add-le-add (mul-le-mul h h) (mul-le-mul (add-le-add h (mul-le-mul (le_refl 1) h)) h)) h)) h)

-- Over any K, since the fourth power of U is too long for omega.
past_b : (K a b W F G x y S Q L1 L2 H : ℕ) → b * K ≤ (a + W) * K → a * K ≤ F * K → F * K ≤ x + L1 → x + S ≤ y → y ≤ G * K + L2 → Q ≤ S → L1 ≤ H → L2 ≤ H → W * K + (H + H) ≤ Q → b * K ≤ G * K
past_b K a b W F G x y S Q L1 L2 H h1 h2 h3 h4 h5 h6 h7 h8 h9 = omega (arith, add-mul a W K)

-- From the low end s of a fifth root, d + 1 further on the power is past b.
reaches : (a b W s t d h : ℕ) → b ≤ a + W → a ≤ fifth_power_up (suc s) → t ≤ suc s → suc s + d ≤ h → W * U⁴ + (loss h + loss h) ≤ slope t * d → b ≤ fifth_power_down (suc s + d)
reaches a b W s t d h l f k g e =
    le_of_mul-le-mul_right
    (past_b U⁴ a b W (fifth_power_up (suc s)) (fifth_power_down (suc s + d)) (fifth (suc s)) (fifth (suc s + d)) (slope (suc s) * d) (slope t * d)
    (loss (suc s)) (loss (suc s + d)) (loss h) (mul-le-mul_right U⁴ l) (mul-le-mul_right U⁴ f) (up_below_fifth (suc s)) (bernoulli (suc s) d)
    (fifth_below_down (suc s + d)) (mul-le-mul_right d (slope_grows k)) (loss_grows (le_trans (le-add_right (suc s) d) g)) (loss_grows g) e)
    (lit< {n = U⁴} tt)

-- ---- the fifth root of a pair [a, b]
pub fifth_root_ends : (a b : ℕ) → a ≤ b → fifth_root_down a ≤ fifth_root_up b
fifth_root_ends a b h =
    fifth_cancels (fifth_root_down a) (fifth_root_up b)
    (le_trans (fifth_below_up (fifth_root_down a))
    (le_trans (mul-le-mul_right U⁴ (le_trans (fifth_root_down_passes a) (le_trans h (fifth_root_up_passes b))))
    (down_below_fifth (fifth_root_up b))))

-- t bounds the low end from below, h the place d + 1 past it from above; then the ends are at most d + 1 apart.
pub fifth_root_near : (a b W t d h : ℕ) → b ≤ a + W → t ≤ fifth_root_down a → suc (fifth_root_down a) + d ≤ h → W * U⁴ + (loss h + loss h) ≤ slope t * d → fifth_root_up b ≤ fifth_root_down a + suc d
fifth_root_near a b W t d h l k g e =
    let s = fifth_root_down a in
    let q = fifth_root_up_bound b (suc s + d) (reaches a b W s t d h l (le_of_lt (fifth_root_down_next a)) (le_step k) g e) in
    omega arith
