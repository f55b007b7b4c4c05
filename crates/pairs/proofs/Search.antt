-- The greatest and the least number that passes a test, and the roots that they name: what passes, what is bounded, and the
-- law that names each without a search. By induction over the search; a power that grows bounds its roots. Assumes nothing.
use mathlib.Core.Path.{◌≡◌, refl, sym, subst}
use mathlib.Core.Bool.{Bool, true, false}
use Prim.Native.Nat.{ℕ, zero, suc, ◌+◌, ◌*◌, ◌-◌, ◌/◌, ◌≤◌, ◌<◌, zero-le}
use native.Mathlib.Nat.{le_trans, le_refl, lt_of_not-le, not-le_of_lt, not-suc-le_self, mul-le-mul, mul-le-mul_left, mul-le-mul_right, mul_comm, mul_assoc, suc-mul, le_of_mul-le-mul_right, div-mul-le_self, lt-div-mul-add}
use native.Mathlib.Decide.{dec_le}
use native.Mathlib.Omega.{arith}
use lib.Dec.{T, leb, leb→le, le→leb, lit<}
use Rattle.pairs.specs.Search.{greatest, least}
use Rattle.pairs.specs.Rounded.{U, up, down, root_down, root_up, fifth_power_up, fifth_power_down, fifth_root_down, fifth_root_up}
use Rattle.pairs.proofs.Rounding.{up_grows, down_grows}

-- A choice on a test, by its two outcomes.
pub by_test : {A : Type 0} (P : A → Type 0) (b : Bool) (x y : A) → (T b → P x) → ((T b → ⊥) → P y) → P (elim b [ true ↦ x | false ↦ y ])
by_test P true x y h k = h tt
by_test P false x y h k = k (λ t. t)

-- What passes, passes all the way down; all the way up.
abbrev pub Downward : (ℕ → Bool) → Type 0
Downward f = (a b : ℕ) → a ≤ b → T (f b) → T (f a)

abbrev pub Upward : (ℕ → Bool) → Type 0
Upward f = (a b : ℕ) → a ≤ b → T (f a) → T (f b)

at_last : {x n : ℕ} → x ≤ suc n → (x ≤ n → ⊥) → x ≡ suc n
at_last {x} {n} h k = omega (arith, lt_of_not-le k)

module _ (f : ℕ → Bool) where
  pub greatest_passes : (n : ℕ) → T (f 0) → T (f (greatest f n))
  unfolding greatest
  greatest_passes zero t = t
  greatest_passes (suc n) t = by_test (λ c. T (f c)) (f (suc n)) _ _ (λ p. p) (λ p. greatest_passes n t)

  pub greatest_within : (n : ℕ) → greatest f n ≤ n
  unfolding greatest
  greatest_within zero = le_refl zero
  greatest_within (suc n) = by_test (λ c. c ≤ suc n) (f (suc n)) _ _ (λ p. le_refl (suc n)) (λ p. omega (arith, greatest_within n))

  pub greatest_bound : (n x : ℕ) → x ≤ n → T (f x) → x ≤ greatest f n
  unfolding greatest
  greatest_bound zero x h t = h
  greatest_bound (suc n) x h t =
      by_test (λ c. x ≤ c) (f (suc n)) _ _ (λ p. h)
      (λ p. elim (dec_le x n) [ yes l ↦ greatest_bound n x l t | no l ↦ absurd (p (subst (λ y. T (f y)) (at_last h l) t)) ])

  pub greatest_is : Downward f → (n s : ℕ) → s ≤ n → T (f s) → (T (f (suc s)) → ⊥) → greatest f n ≡ s
  greatest_is d n s h t last =
      let g = greatest f n in
      let below : s ≤ g = greatest_bound n s h t in
      let above : g < suc s = lt_of_not-le (λ l. last (d (suc s) g l (greatest_passes n (d 0 s zero-le t)))) in
      omega arith

  pub least_within : (n : ℕ) → least f n ≤ n
  unfolding least
  least_within zero = le_refl zero
  least_within (suc n) = by_test (λ c. c ≤ suc n) (f (least f n)) _ _ (λ p. omega (arith, least_within n)) (λ p. le_refl (suc n))

  pub least_passes : (n x : ℕ) → x ≤ n → T (f x) → T (f (least f n))
  unfolding least
  least_passes zero zero h t = t
  least_passes zero (suc x) h t = absurd (omega arith)
  least_passes (suc n) x h t =
      by_test (λ c. T (f c)) (f (least f n)) _ _ (λ p. p)
      (λ p. elim (dec_le x n) [ yes l ↦ absurd (p (least_passes n x l t)) | no l ↦ subst (λ y. T (f y)) (at_last h l) t ])

  pub least_bound : (n x : ℕ) → T (f x) → least f n ≤ x
  unfolding least
  least_bound zero x t = zero-le
  least_bound (suc n) x t =
      by_test (λ c. c ≤ x) (f (least f n)) _ _ (λ p. least_bound n x t)
      (λ p. elim (dec_le x n) [ yes l ↦ absurd (p (least_passes n x l t)) | no l ↦ lt_of_not-le l ])

  -- Below n it passes; and it is the first that does, or n.
  pub least_reached : (n : ℕ) → least f n < n → T (f (least f n))
  unfolding least
  least_reached zero h = absurd (omega arith)
  least_reached (suc n) h = by_test (λ c. c < suc n → T (f c)) (f (least f n)) _ _ (λ p l. p) (λ p l. absurd (omega arith)) h

  pub least_first : (n s : ℕ) → s ≤ n → T (f s) → ((x : ℕ) → x < s → T (f x) → ⊥) → least f n ≡ s
  least_first n s h t before =
      let g = least f n in
      let above : g ≤ s = least_bound n s t in
      let below : s < suc g = lt_of_not-le (λ l. before g l (least_passes n s h t)) in
      omega arith

  pub least_none : (n : ℕ) → ((x : ℕ) → x < n → T (f x) → ⊥) → least f n ≡ n
  least_none n none =
      let within : least f n ≤ n = least_within n in
      let last : n < suc (least f n) = lt_of_not-le (λ l. none (least f n) l (least_reached n l)) in
      omega arith

  pub least_is : Upward f → (n s : ℕ) → suc s ≤ n → T (f (suc s)) → (T (f s) → ⊥) → least f n ≡ suc s
  least_is w n s h t before =
      let g = least f n in
      let above : g ≤ suc s = least_bound n (suc s) t in
      let below : s < g = lt_of_not-le (λ l. before (w g s l (least_passes n (suc s) h t))) in
      omega arith

-- The root of a power that grows with s: the greatest s whose power is at most x, the least whose power is at least x.
abbrev reached : (ℕ → ℕ) → ℕ → ℕ → Bool
reached power x s = leb (power s) x

abbrev passed : (ℕ → ℕ) → ℕ → ℕ → Bool
passed power x s = leb x (power s)

module _ (power : ℕ → ℕ) (grows : (a b : ℕ) → a ≤ b → power a ≤ power b) (x n : ℕ) where
  downward : Downward (reached power x)
  downward a b h t = le→leb _ _ (le_trans (grows a b h) (leb→le (power b) x t))

  upward : Upward (passed power x)
  upward a b h t = le→leb _ _ (le_trans (leb→le x (power a) t) (grows a b h))

  down_passes : power 0 ≤ x → power (greatest (reached power x) n) ≤ x
  down_passes h = leb→le _ _ (greatest_passes (reached power x) n (le→leb _ _ h))

  down_bound : ((s : ℕ) → power s ≤ x → s ≤ n) → (s : ℕ) → power s ≤ x → s ≤ greatest (reached power x) n
  down_bound within s h = greatest_bound (reached power x) n s (within s h) (le→leb _ _ h)

  down_is : ((s : ℕ) → power s ≤ x → s ≤ n) → (s : ℕ) → power s ≤ x → x < power (suc s) → greatest (reached power x) n ≡ s
  down_is within s h k =
      greatest_is (reached power x) downward n s (within s h) (le→leb _ _ h) (λ t. not-le_of_lt k (leb→le (power (suc s)) x t))

  up_passes : x ≤ power n → x ≤ power (least (passed power x) n)
  up_passes h = leb→le _ _ (least_passes (passed power x) n n (le_refl n) (le→leb _ _ h))

  up_bound : (s : ℕ) → x ≤ power s → least (passed power x) n ≤ s
  up_bound s h = least_bound (passed power x) n s (le→leb _ _ h)

  up_is : x ≤ power n → (s : ℕ) → power s < x → x ≤ power (suc s) → least (passed power x) n ≡ suc s
  up_is h s k l =
      least_is (passed power x) upward n s (lt_of_not-le (λ g. not-le_of_lt k (le_trans h (grows n s g)))) (le→leb _ _ l)
      (λ t. not-le_of_lt k (leb→le x (power s) t))

-- No number past a bound: the number after it does not pass.
next_fails : {g x p : ℕ} → (p ≤ x → suc g ≤ g) → x < p
next_fails h = lt_of_not-le (λ l. not-suc-le_self _ (h l))

-- The least that passes, less 1, does not pass.
before_fails : (power : ℕ → ℕ) (x g : ℕ) → power 0 ≡ 0 → zero < x → x ≤ power g → ((s : ℕ) → x ≤ power s → g ≤ s) → power (g - 1) < x
before_fails power x zero z p h b = absurd (omega arith)
before_fails power x (suc g) z p h b =
    let e : suc g - 1 ≡ g = omega arith in
    rw e (lt_of_not-le (λ l. not-suc-le_self g (b g l)))

-- ---- roots
square : ℕ → ℕ
square s = s * s

square_grows : (a b : ℕ) → a ≤ b → square a ≤ square b
unfolding square
square_grows a b h = mul-le-mul h h

pub self_square : (s : ℕ) → s ≤ s * s
self_square zero = zero-le
self_square (suc s) = omega (arith, mul-le-mul_left (suc s) (lit s))
  where
    lit : (s : ℕ) → 1 ≤ suc s
    lit s = omega arith

square_within : (n s : ℕ) → s * s ≤ n → s ≤ n
square_within n s h = le_trans (self_square s) h

pub root_down_passes : (n : ℕ) → root_down n * root_down n ≤ n
unfolding root_down square
root_down_passes n = down_passes square square_grows n n zero-le

-- Every s with s·s ≤ n is at most the root.
pub root_down_bound : (n s : ℕ) → s * s ≤ n → s ≤ root_down n
unfolding root_down square
root_down_bound n s h = down_bound square square_grows n n (square_within n) s h

pub root_down_next : (n : ℕ) → n < suc (root_down n) * suc (root_down n)
root_down_next n = next_fails (root_down_bound n (suc (root_down n)))

pub root_down_is : (n s : ℕ) → s * s ≤ n → n < suc s * suc s → root_down n ≡ s
unfolding root_down square
root_down_is n s h k = down_is square square_grows n n (square_within n) s h k

-- The root of n·k·k, over k, is that of n.
module _ (n k : ℕ) (p : zero < k) where
  abbrev t : ℕ
  t = root_down (n * (k * k))

  squares : (s : ℕ) → s * k * (s * k) ≡ s * s * (k * k)
  squares s = rw (mul_assoc s k (s * k), ← mul_assoc k s k, mul_comm k s, mul_assoc s k k, ← mul_assoc s s (k * k))

  scaled_passes : t / k * (t / k) ≤ n
  scaled_passes =
      le_of_mul-le-mul_right
      (rw (← squares (t / k)) (le_trans (mul-le-mul (div-mul-le_self t k) (div-mul-le_self t k)) (root_down_passes (n * (k * k)))))
      (le_trans p (self_square k))

  scaled_next : n < suc (t / k) * suc (t / k)
  scaled_next =
      let next : suc t ≤ suc (t / k) * k = omega (arith, lt-div-mul-add {a = t} p, suc-mul (t / k) k) in
      lt_of_not-le
      (λ l.
      not-le_of_lt (root_down_next (n * (k * k))) (le_trans (mul-le-mul next next) (rw (squares (suc (t / k))) (mul-le-mul_right (k * k) l))))

  pub root_down_scaled : root_down (n * (k * k)) / k ≡ root_down n
  root_down_scaled = sym (root_down_is n (t / k) scaled_passes scaled_next)

pub root_up_passes : (n : ℕ) → n ≤ root_up n * root_up n
unfolding root_up square
root_up_passes n = up_passes square square_grows n n (self_square n)

-- Every s with n ≤ s·s is at least the root.
pub root_up_bound : (n s : ℕ) → n ≤ s * s → root_up n ≤ s
unfolding root_up square
root_up_bound n s h = up_bound square square_grows n n s h

pub root_up_before : (n : ℕ) → zero < n → (root_up n - 1) * (root_up n - 1) < n
unfolding square
root_up_before n p = before_fails square n (root_up n) refl p (root_up_passes n) (root_up_bound n)

pub root_up_is : (n s : ℕ) → s * s < n → n ≤ suc s * suc s → root_up n ≡ suc s
unfolding root_up square
root_up_is n s h k = up_is square square_grows n n (self_square n) s h k

-- ---- fifth roots
pub product_up_grows : {a b c d : ℕ} → a ≤ b → c ≤ d → up (a * c) U ≤ up (b * d) U
product_up_grows h k = up_grows (lit< {n = U} tt) (le_refl U) (mul-le-mul h k)

pub product_down_grows : {a b c d : ℕ} → a ≤ b → c ≤ d → down (a * c) U ≤ down (b * d) U
product_down_grows h k = down_grows (lit< {n = U} tt) (le_refl U) (mul-le-mul h k)

pub fifth_power_up_grows : (a b : ℕ) → a ≤ b → fifth_power_up a ≤ fifth_power_up b
unfolding fifth_power_up
fifth_power_up_grows a b h = product_up_grows (product_up_grows (product_up_grows (product_up_grows h h) h) h) h

pub fifth_power_down_grows : (a b : ℕ) → a ≤ b → fifth_power_down a ≤ fifth_power_down b
unfolding fifth_power_down
fifth_power_down_grows a b h = product_down_grows (product_down_grows (product_down_grows (product_down_grows h h) h) h) h

-- From U on a product by s is at least s.
up_past : {a s : ℕ} → U ≤ s → s ≤ a → s ≤ up (a * s) U
unfolding up
up_past {a} {s} h k = omega (arith, mul-le-mul_left U k, mul-le-mul_right a h, mul_comm a s)

down_past : {a s : ℕ} → U ≤ s → s ≤ a → s ≤ down (a * s) U
unfolding down
down_past {a} {s} h k = omega (arith, mul-le-mul_left U k, mul-le-mul_right a h, mul_comm a s)

fifth_power_up_past : {s : ℕ} → U ≤ s → s ≤ fifth_power_up s
unfolding fifth_power_up
fifth_power_up_past h = up_past h (up_past h (up_past h (up_past h (le_refl _))))

fifth_power_down_past : {s : ℕ} → U ≤ s → s ≤ fifth_power_down s
unfolding fifth_power_down
fifth_power_down_past h = down_past h (down_past h (down_past h (down_past h (le_refl _))))

past : (a s : ℕ) → a + U < s → U ≤ s
past a s h = omega arith

fifth_within : (a s : ℕ) → fifth_power_up s ≤ a → s ≤ a + U
fifth_within a s h =
    elim (dec_le s (a + U)) [
      | yes l ↦ l
      | no l ↦ absurd (not-le_of_lt (lt_of_not-le l) (le_trans (le_trans (fifth_power_up_past (past a s (lt_of_not-le l))) h) (omega arith)))
    ]

fifth_reached : (b : ℕ) → b ≤ fifth_power_down (b + U)
fifth_reached b = le_trans (omega arith) (fifth_power_down_past (omega arith))

pub fifth_root_down_passes : (a : ℕ) → fifth_power_up (fifth_root_down a) ≤ a
unfolding fifth_root_down fifth_power_up up
fifth_root_down_passes a = down_passes fifth_power_up fifth_power_up_grows a (a + U) zero-le

pub fifth_root_down_bound : (a s : ℕ) → fifth_power_up s ≤ a → s ≤ fifth_root_down a
unfolding fifth_root_down
fifth_root_down_bound a s h = down_bound fifth_power_up fifth_power_up_grows a (a + U) (fifth_within a) s h

pub fifth_root_down_next : (a : ℕ) → a < fifth_power_up (suc (fifth_root_down a))
fifth_root_down_next a = next_fails (fifth_root_down_bound a (suc (fifth_root_down a)))

pub fifth_root_down_is : (a s : ℕ) → fifth_power_up s ≤ a → a < fifth_power_up (suc s) → fifth_root_down a ≡ s
unfolding fifth_root_down
fifth_root_down_is a s h k = down_is fifth_power_up fifth_power_up_grows a (a + U) (fifth_within a) s h k

pub fifth_root_up_passes : (b : ℕ) → b ≤ fifth_power_down (fifth_root_up b)
unfolding fifth_root_up
fifth_root_up_passes b = up_passes fifth_power_down fifth_power_down_grows b (b + U) (fifth_reached b)

pub fifth_root_up_bound : (b s : ℕ) → b ≤ fifth_power_down s → fifth_root_up b ≤ s
unfolding fifth_root_up
fifth_root_up_bound b s h = up_bound fifth_power_down fifth_power_down_grows b (b + U) s h

zero_fifth : fifth_power_down 0 ≡ 0
unfolding fifth_power_down down
zero_fifth = refl

pub fifth_root_up_before : (b : ℕ) → zero < b → fifth_power_down (fifth_root_up b - 1) < b
fifth_root_up_before b p = before_fails fifth_power_down b (fifth_root_up b) zero_fifth p (fifth_root_up_passes b) (fifth_root_up_bound b)

pub fifth_root_up_is : (b s : ℕ) → fifth_power_down s < b → b ≤ fifth_power_down (suc s) → fifth_root_up b ≡ suc s
unfolding fifth_root_up
fifth_root_up_is b s h k = up_is fifth_power_down fifth_power_down_grows b (b + U) (fifth_reached b) s h k

pub fifth_root_up_within : (b : ℕ) → fifth_root_up b ≤ b + U
fifth_root_up_within b = fifth_root_up_bound b (b + U) (fifth_reached b)
