-- The first place of a number: whether there is one, what another pool there makes of the places, and that no place is vacant exactly where
-- every place has a pool. By induction over the places. Assumes nothing.
use mathlib.Core.Path.{◌≡◌, refl, sym, ap, ◌∙◌}
use mathlib.Core.Bool.{true, false, true≢false}
use mathlib.Core.List.{List, [], ◌∷◌}
use Prim.Native.Nat.{ℕ, zero, suc, ◌+◌, ◌≤◌, ◌<◌}
use native.Mathlib.Nat.{lt_of_not-le}
use native.Mathlib.Decide.{ℕ_discrete, dec_le}
use native.Mathlib.Omega.{arith}
use lib.ListN.{length, set, length-set}
use Rattle.register.specs.declared.places.BurningPool.{BurningPool}
use Rattle.register.specs.Places.{vacant, has}
use Rattle.register.specs.Sums.{over_burning}
use Rattle.register.specs.Calls.{replaced}
use Rattle.register.proofs.ByNumber.{first_of, pool_at, has_here, has_later, first_here, first_later, replaced_here, replaced_later, sum_vacant, sum_burning, has_none, replaced_none, sum_none, by_number}

module _ (n : ℕ) where
  pub has_place : (ps : List BurningPool) → first_of n ps < length ps → has n ps ≡ true
  has_place =
      by_number n (λ ps. first_of n ps < length ps → has n ps ≡ true) (λ l. absurd (omega arith)) (λ p ps e rest l. has_here n p ps e)
      (λ p ps e rest l. has_later n p ps e ∙ rest (omega (arith, first_later n p ps e)))

  pub no_place : (ps : List BurningPool) → length ps ≤ first_of n ps → has n ps ≡ false
  no_place =
      by_number n (λ ps. length ps ≤ first_of n ps → has n ps ≡ false) (λ l. has_none n) (λ p ps e rest l. absurd (omega (arith, first_here n p ps e)))
      (λ p ps e rest l. has_later n p ps e ∙ rest (omega (arith, first_later n p ps e)))

  pub replaced_is_set : (pool : BurningPool) (ps : List BurningPool) → replaced n pool ps ≡ set ps (first_of n ps) pool
  replaced_is_set pool =
      by_number n (λ ps. replaced n pool ps ≡ set ps (first_of n ps) pool) (replaced_none n pool)
      (λ p ps e rest. replaced_here n p ps e pool ∙ ap (λ i. set (p ∷ ps) i pool) (sym (first_here n p ps e)))
      (λ p ps e rest.
      replaced_later n p ps e pool ∙ ap (λ (qs : List BurningPool). p ∷ qs) rest ∙ ap (λ i. set (p ∷ ps) i pool) (sym (first_later n p ps e)))

-- How many burn: fewer than there are places exactly where one is vacant.
pub most_burn : (ps : List BurningPool) → over_burning (λ p. 1) ps ≤ length ps
most_burn =
    by_number 0 (λ ps. over_burning (λ p. 1) ps ≤ length ps) (omega (arith, sum_none (λ p. 1)))
    (λ p ps e rest. omega (arith, sum_vacant (λ q. 1) p ps e, rest))
    (λ p ps e rest. omega (arith, sum_burning (λ q. 1) p ps e, rest))

pub one_vacant : (ps : List BurningPool) → first_of 0 ps < length ps → over_burning (λ p. 1) ps < length ps
one_vacant =
    by_number 0 (λ ps. first_of 0 ps < length ps → over_burning (λ p. 1) ps < length ps) (λ l. absurd (omega arith))
    (λ p ps e rest l. omega (arith, sum_vacant (λ q. 1) p ps e, most_burn ps))
    (λ p ps e rest l. omega (arith, sum_burning (λ q. 1) p ps e, rest (omega (arith, first_later 0 p ps e))))

pub all_burn : (ps : List BurningPool) → length ps ≤ first_of 0 ps → length ps ≤ over_burning (λ p. 1) ps
all_burn =
    by_number 0 (λ ps. length ps ≤ first_of 0 ps → length ps ≤ over_burning (λ p. 1) ps) (λ l. omega arith)
    (λ p ps e rest l. absurd (omega (arith, first_here 0 p ps e)))
    (λ p ps e rest l. omega (arith, sum_burning (λ q. 1) p ps e, rest (omega (arith, first_later 0 p ps e))))

pub vacant_there : (ps : List BurningPool) → length ps ≡ 32 → over_burning (λ p. 1) ps < 32 → has 0 ps ≡ true
vacant_there ps long space =
    elim (dec_le (length ps) (first_of 0 ps)) [
      | yes k ↦ absurd (omega (arith, all_burn ps k, long, space))
      | no k ↦ has_place 0 ps (lt_of_not-le k)
    ]

-- ---- another pool in the first place of a number
pub long_replaced : (n : ℕ) (pool : BurningPool) (ps : List BurningPool) → length (replaced n pool ps) ≡ length ps
long_replaced n pool ps = ap length (replaced_is_set n pool ps) ∙ length-set ps (first_of n ps) pool

-- One pool fewer, where the first place of a number is made vacant.
pub one_less :
    (n : ℕ) → (n ≡ 0 → ⊥) → (ps : List BurningPool) → has n ps ≡ true
    → suc (over_burning (λ p. 1) (replaced n vacant ps)) ≡ over_burning (λ p. 1) ps
one_less n k =
    by_number n (λ ps. has n ps ≡ true → suc (over_burning (λ p. 1) (replaced n vacant ps)) ≡ over_burning (λ p. 1) ps)
    (λ t. absurd (true≢false (sym t ∙ has_none n)))
    (λ p ps e rest t.
    let now = ap (over_burning (λ q. 1)) (replaced_here n p ps e vacant) ∙ sum_vacant (λ q. 1) vacant ps refl in
    omega (arith, now, sum_burning (λ q. 1) p ps (λ z. k (sym e ∙ z))))
    (λ p ps e rest t. later p ps e (rest (sym (has_later n p ps e) ∙ t)))
  where
    later :
        (p : BurningPool) (ps : List BurningPool) → (p.number ≡ n → ⊥)
        → suc (over_burning (λ q. 1) (replaced n vacant ps)) ≡ over_burning (λ q. 1) ps
        → suc (over_burning (λ q. 1) (replaced n vacant (p ∷ ps))) ≡ over_burning (λ q. 1) (p ∷ ps)
    later p ps e rest =
        let now = ap (over_burning (λ q. 1)) (replaced_later n p ps e vacant) in
        elim (ℕ_discrete p.number 0) [
          | yes z ↦ omega (arith, now, rest, sum_vacant (λ q. 1) p (replaced n vacant ps) z, sum_vacant (λ q. 1) p ps z)
          | no z ↦ omega (arith, now, rest, sum_burning (λ q. 1) p (replaced n vacant ps) z, sum_burning (λ q. 1) p ps z)
        ]

-- ---- a burning pool's place is made vacant: the sum loses its figure
module _ (figure : BurningPool → ℕ) (out : BurningPool) (o : out.number ≡ 0) where
  pub sum_without :
      (ps : List BurningPool) (i : ℕ) → i < length ps → ((pool_at ps i).number ≡ 0 → ⊥)
      → over_burning figure ps ≡ figure (pool_at ps i) + over_burning figure (set ps i out)
  sum_without [] i l e = absurd (omega arith)
  sum_without (p ∷ ps) zero l e = sum_burning figure p ps e ∙ ap (◌+◌ (figure p)) (sym (sum_vacant figure out ps o))
  sum_without (p ∷ ps) (suc i) l e =
      let rest = sum_without ps i (omega arith) e in
      elim (ℕ_discrete p.number 0) [
        | yes z ↦ omega (arith, rest, sum_vacant figure p ps z, sum_vacant figure p (set ps i out) z)
        | no z ↦ omega (arith, rest, sum_burning figure p ps z, sum_burning figure p (set ps i out) z)
      ]
