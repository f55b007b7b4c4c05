-- A rounded pair inside a bound: each operation on pairs stays inside the same operation on bounds.
-- Ends by growth, widths by one product rule, one quotient rule and one root rule. Assumes nothing.
use mathlib.Core.Path.{◌≡◌}
use mathlib.Core.Bool.{Bool, ◌&&◌}
use Prim.Native.Nat.{ℕ, zero, suc, ◌+◌, ◌*◌, ◌≤◌, ◌<◌, zero-le, max}
use native.Mathlib.Nat.{le_trans, le_refl, mul-add, add-mul, mul_comm, mul_assoc, mul-le-mul, mul-le-mul_left, mul-le-mul_right, le_of_mul-le-mul_right, mul-pos, one-mul, suc-mul, mul_right_comm, le-max_left, le-max_right}
use native.Mathlib.Omega.{arith}
use lib.Dec.{T, leb, ltb, leb→le, ltb→lt, lit<}
use lib.Ieee.Fits.{and_l, and_r}
use Rattle.pairs.specs.declared.answer.Pair.{Pair}
use Rattle.pairs.specs.Rounded as R
use Rattle.pairs.specs.Rounded.{U, rounded, cold_pair, up, down, root_down, root_up, fifth_root_down, fifth_root_up, fifth_power_up, fifth_power_down}
use Rattle.pairs.proofs.Rounding.{up_covers, up_least, up_grows, down_grows, down_within, down_covers}
use Rattle.pairs.proofs.Search.{by_test, self_square, fifth_root_up_within, root_down_passes, root_down_bound, root_down_next, root_up_passes, root_up_bound, fifth_root_down_passes, fifth_root_down_bound, fifth_root_up_passes, fifth_root_up_bound}
use Rattle.pairs.proofs.FifthPower.{U⁴, slope, loss, fifth_root_near}
use Rattle.pairs.proofs.Ordered as O
use Rattle.pairs.proofs.Ordered.{Ordered}
use Rattle.chain.specs.Chain.{most_exposed}
use Rattle.chain.proofs.Hypotenuse.{exposed_near}
use Rattle.chain.proofs.Bounds as B
use Rattle.chain.proofs.Bounds.{Bound, bound, first_passing}

pub record Inside (p : Pair) (b : Bound) : Type 0 where
  pub low : b.least ≤ p.low
  pub ordered : p.low ≤ p.high
  pub high : p.high ≤ b.most
  pub near : p.high ≤ p.low + b.width

in_order : {p : Pair} {b : Bound} → Inside p b → Ordered p
in_order h = record { ends = h.ordered }

pub constant_inside : (n d : ℕ) → Inside (R.constant n d) (B.constant n d)
unfolding R.constant B.constant bound
constant_inside n d = record { low = le_refl _; ordered = le_refl _; high = le_refl _; near = omega arith }

pub sum_inside : {p q : Pair} {b c : Bound} → Inside p b → Inside q c → Inside (R.sum p q) (B.sum b c)
unfolding R.sum B.sum bound
sum_inside h k = record { low = omega arith; ordered = omega arith; high = omega arith; near = omega arith }

pub difference_inside : {p q : Pair} {b c : Bound} → Inside p b → Inside q c → Inside (R.difference p q) (B.difference b c)
unfolding R.difference B.difference bound
difference_inside h k = record { low = omega arith; ordered = omega arith; high = omega arith; near = omega arith }

pub times_inside : {p : Pair} {b : Bound} → Inside p b → (n : ℕ) → Inside (R.times p n) (B.times b n)
unfolding R.times B.times bound
times_inside {p} {b} h n =
    record {
      low = mul-le-mul_right n h.low;
      ordered = mul-le-mul_right n h.ordered;
      high = mul-le-mul_right n h.high;
      near = omega (arith, mul-le-mul_right n h.near, add-mul p.low b.width n);
    }

pub high_only_inside : {p : Pair} {b : Bound} → Inside p b → Inside (R.high_only p) (B.high_only b)
unfolding R.high_only B.high_only bound
high_only_inside h = record { low = zero-le; ordered = zero-le; high = h.high; near = omega arith }

-- ---- what is let through as it is, and the cold pair
pub spanning_inside : {p : Pair} {b : Bound} (test : Bool) → Inside p b → Inside p (B.spanning test b)
unfolding B.spanning
spanning_inside test h = record { low = h.low; ordered = h.ordered; high = h.high; near = h.near }

pub or_cold_inside : {p : Pair} {b : Bound} (safe : Bool) → Inside p b → Inside p (B.or_cold safe b)
unfolding B.or_cold
or_cold_inside {b = b} safe h =
    record {
      low = zero-le;
      ordered = h.ordered;
      high = le_trans h.high (le-max_left _ _);
      near = omega (arith, h.near, le-max_left b.width cold_pair.high);
    }

pub cold_inside : (safe : Bool) (b : Bound) → Inside cold_pair (B.or_cold safe b)
unfolding B.or_cold
cold_inside safe b =
    record { low = zero-le; ordered = zero-le; high = le-max_right b.most _; near = omega (arith, le-max_right b.width cold_pair.high) }

-- ---- product: b·d is at most a·c and each width times the other's high end
product_width : (a b c d M N X W : ℕ) → b ≤ a + X → d ≤ c + W → b ≤ M → d ≤ N → c ≤ d → b * d ≤ a * c + (M * W + X * N)
product_width a b c d M N X W h k i j l =
    omega (arith, mul-le-mul_left b k, mul-add b c W, mul-le-mul_right c h, add-mul a X c, mul-le-mul_right W i, mul-le-mul_left X (le_trans l j))

pub rounded_near : (x y z k : ℕ) → y ≤ x + z → z ≤ k * U → up y U ≤ down x U + (k + 1)
unfolding up down
rounded_near x y z k h l = omega arith

pub product_inside : {p q : Pair} {b c : Bound} → Inside p b → Inside q c → Inside (R.product p q) (B.product b c)
unfolding R.product B.product bound
product_inside {p} {q} {b} {c} h k =
    record {
      low = down_grows (lit< {n = U} tt) (le_refl U) (mul-le-mul h.low k.low);
      ordered = (O.product_ordered (in_order h) (in_order k)).ends;
      high = up_grows (lit< {n = U} tt) (le_refl U) (mul-le-mul h.high k.high);
      near =
          rounded_near (p.low * q.low) (p.high * q.high) (b.most * c.width + b.width * c.most) _
          (product_width p.low p.high q.low q.high b.most c.most b.width c.width h.near k.near h.high k.high k.ordered)
          (up_covers (b.most * c.width + b.width * c.most) U (lit< {n = U} tt));
    }

pub over_inside : {p : Pair} {b : Bound} → Inside p b → (n : ℕ) → zero < n → Inside (R.over p n) (B.over b n)
unfolding R.over B.over bound
over_inside {p} {b} h n z =
    record {
      low = down_grows z (le_refl n) h.low;
      ordered = (O.over_ordered (in_order h) n z).ends;
      high = up_grows z (le_refl n) h.high;
      near =
          up_least p.high n (down p.low n + (up b.width n + 1)) z
          (omega (arith, h.near, down_covers p.low n z, up_covers b.width n z, add-mul (down p.low n) (up b.width n + 1) n, add-mul (up b.width n) 1 n));
    }

-- ---- quotient: a·k over d and the widths make b·k over c
quotient_width : (a b c d M k m X W S H Z : ℕ) → zero < m → m ≤ c → c ≤ d → d ≤ c + W → b ≤ a + X → a ≤ M → a * k < S * d + d → S * d ≤ a * k → X * k + W ≤ H * m → M * k * W ≤ Z * (m * m) → b * k ≤ (S + (H + Z + 1)) * c
quotient_width a b c d M k m X W S H Z z h l w v i f g t q =
    omega (
      arith,
      mul-le-mul_right k v,
      add-mul a X k,
      mul-le-mul_left S w,
      mul-add S c W,
      spread,
      mul-le-mul_left H h,
      add-mul S (H + Z + 1) c,
      add-mul (H + Z) 1 c,
      add-mul H Z c,
      one-mul c,
    )
  where
    spread : S * W ≤ Z * c
    spread =
        le_of_mul-le-mul_right
        (le_trans (rw (mul_right_comm S W c) (mul-le-mul_right W (le_trans (mul-le-mul_left S l) (le_trans g (mul-le-mul_right k i)))))
        (le_trans q (rw (mul_assoc Z c c) (mul-le-mul_left Z (mul-le-mul h h)))))
        (le_trans z h)

pub quotient_inside : {p q : Pair} {b c : Bound} → zero < c.least → Inside p b → Inside q c → Inside (R.quotient p q) (B.quotient b c)
unfolding R.quotient B.quotient bound
quotient_inside {p} {q} {b} {c} z h k =
    let low_above : zero < q.low = le_trans z k.low in
    let high_above : zero < q.high = le_trans low_above k.ordered in
    record {
      low = down_grows high_above k.high (mul-le-mul_right U h.low);
      ordered = (O.quotient_ordered low_above (in_order h) (in_order k)).ends;
      high = up_grows z k.low (mul-le-mul_right U h.high);
      near =
          up_least (p.high * U) q.low _ low_above
          (quotient_width p.low p.high q.low q.high b.most U c.least b.width c.width (down (p.low * U) q.high)
          (up (b.width * U + c.width) c.least) (up (b.most * U * c.width) (c.least * c.least)) z k.low k.ordered k.near h.near
          (le_trans h.ordered h.high) (down_covers (p.low * U) q.high high_above) (down_within (p.low * U) q.high)
          (up_covers (b.width * U + c.width) c.least z) (up_covers (b.most * U * c.width) (c.least * c.least) (mul-pos z z)));
    }

-- ---- roots: a guess that passes its test bounds the root
first_passing_holds : (P : ℕ → Type 0) (passes : ℕ → Bool) (s t o : ℕ) → ((n : ℕ) → T (passes n) → P n) → P o → P (first_passing passes s t o)
unfolding first_passing
first_passing_holds P passes s t o h k =
    by_test P (passes s) _ _ (h s) (λ _. by_test P (passes t) _ _ (h t) (λ _. k))

root_below_holds : (x : ℕ) → B.root_below x ≤ root_down x
unfolding B.root_below
root_below_holds x =
    first_passing_holds (λ c. c ≤ root_down x) (λ t. leb (t * t) x) _ _ 0 (λ n t. root_down_bound x n (leb→le _ _ t)) zero-le

root_above_holds : (x : ℕ) → root_up x ≤ B.root_above x
unfolding B.root_above
root_above_holds x =
    first_passing_holds (λ c. root_up x ≤ c) (λ t. leb x (t * t)) _ _ x (λ n t. root_up_bound x n (leb→le _ _ t)) (root_up_bound x x (self_square x))

root_down_grows : {x y : ℕ} → x ≤ y → root_down x ≤ root_down y
root_down_grows {x} {y} h = root_down_bound y (root_down x) (le_trans (root_down_passes x) h)

root_up_grows : {x y : ℕ} → x ≤ y → root_up x ≤ root_up y
root_up_grows {x} {y} h = root_up_bound x (root_up y) (le_trans h (root_up_passes y))

-- From s + 1 on, K + 1 further, the square is past by w.
root_width : (s s0 K w : ℕ) → s0 ≤ s → w ≤ K * max 1 (s0 + s0) → suc s * suc s + w ≤ (s + (K + 2)) * (s + (K + 2))
root_width s s0 K w h l =
    rw same
    (omega (arith, mul-le-mul_left K big, mul-add K (suc s) (suc s), add-mul (suc s) (suc K) (suc s + suc K), mul-add (suc s) (suc s) (suc K), mul-add (suc K) (suc s) (suc K), mul_comm (suc s) (suc K), suc-mul K (suc s)))
  where
    same : s + (K + 2) ≡ suc s + suc K
    same = omega arith

    big : max 1 (s0 + s0) ≤ suc s + suc s
    big = omega arith

pub root_inside : {p : Pair} {b : Bound} → Inside p b → Inside (R.root p) (B.root b)
unfolding R.root B.root bound
root_inside {p} {b} h =
    let low : B.root_below (b.least * U) ≤ root_down (p.low * U) = le_trans (root_below_holds _) (root_down_grows (mul-le-mul_right U h.low)) in
    record {
      low = low;
      ordered = (O.root_ordered (in_order h)).ends;
      high = le_trans (root_up_grows (mul-le-mul_right U h.high)) (root_above_holds _);
      near =
          root_up_bound (p.high * U) _
          (le_trans (omega (arith, mul-le-mul_right U h.near, add-mul p.low b.width U, root_down_next (p.low * U)))
          (root_width (root_down (p.low * U)) (B.root_below (b.least * U)) _ (b.width * U) low (up_covers (b.width * U) _ (le-max_left 1 _))));
    }

-- ---- fifth roots
fifth_root_below_holds : (x : ℕ) → B.fifth_root_below x ≤ fifth_root_down x
unfolding B.fifth_root_below
fifth_root_below_holds x =
    first_passing_holds (λ c. c ≤ fifth_root_down x) (λ t. leb (fifth_power_up t) x) _ _ 0 (λ n t. fifth_root_down_bound x n (leb→le _ _ t)) zero-le

fifth_root_above_holds : (x : ℕ) → fifth_root_up x ≤ B.fifth_root_above x
unfolding B.fifth_root_above
fifth_root_above_holds x =
    first_passing_holds (λ c. fifth_root_up x ≤ c) (λ t. leb x (fifth_power_down t)) _ _ (x + U) (λ n t. fifth_root_up_bound x n (leb→le _ _ t))
    (fifth_root_up_within x)

fifth_root_down_grows : {x y : ℕ} → x ≤ y → fifth_root_down x ≤ fifth_root_down y
fifth_root_down_grows {x} {y} h = fifth_root_down_bound y (fifth_root_down x) (le_trans (fifth_root_down_passes x) h)

fifth_root_up_grows : {x y : ℕ} → x ≤ y → fifth_root_up x ≤ fifth_root_up y
fifth_root_up_grows {x} {y} h = fifth_root_up_bound x (fifth_root_up y) (le_trans h (fifth_root_up_passes y))

fifth_root_width_holds : (a b t h W : ℕ) → b ≤ a + W → t ≤ fifth_root_down a → fifth_root_down a ≤ h → fifth_root_up b ≤ h → fifth_root_up b ≤ fifth_root_down a + B.fifth_root_width t h W
unfolding B.fifth_root_width
fifth_root_width_holds a b t h W l k g f =
    let d = up (W * U⁴ + (loss (h + h) + loss (h + h))) (slope t) in
    by_test (λ c. fifth_root_up b ≤ fifth_root_down a + c) (ltb 0 (slope t) && leb (suc h + d) (h + h)) (suc d) h
    (λ p.
    let far : suc (fifth_root_down a) + d ≤ h + h = le_trans (omega arith) (leb→le (suc h + d) (h + h) (and_r (ltb 0 (slope t)) _ p)) in
    fifth_root_near a b W t d (h + h) l k far
    (rw (mul_comm (slope t) d) (up_covers _ (slope t) (ltb→lt 0 (slope t) (and_l (ltb 0 (slope t)) _ p)))))
    (λ _. omega arith)

pub fifth_root_inside : {p : Pair} {b : Bound} → Inside p b → Inside (R.fifth_root p) (B.fifth_root b)
unfolding R.fifth_root B.fifth_root bound
fifth_root_inside {p} {b} h =
    let low : B.fifth_root_below b.least ≤ fifth_root_down p.low = le_trans (fifth_root_below_holds _) (fifth_root_down_grows h.low) in
    let high : fifth_root_up p.high ≤ B.fifth_root_above b.most = le_trans (fifth_root_up_grows h.high) (fifth_root_above_holds _) in
    let ordered : fifth_root_down p.low ≤ fifth_root_up p.high = (O.fifth_root_ordered (in_order h)).ends in
    record {
      low = low;
      ordered = ordered;
      high = high;
      near = fifth_root_width_holds p.low p.high (B.fifth_root_below b.least) (B.fifth_root_above b.most) b.width h.near low (le_trans ordered high) high;
    }

-- ---- the tilted face
pub most_exposed_inside : {p q : Pair} {b c : Bound} → Inside p b → Inside q c → Inside (most_exposed rounded p q) (B.exposed b c)
unfolding most_exposed B.exposed
most_exposed_inside {p} {q} {b} {c} h k =
    let i = root_inside (sum_inside (product_inside h h) (product_inside k k)) in
    record { low = i.low; ordered = i.ordered; high = i.high; near = exposed_near p q b.width c.width h.near k.near }
