-- `starting_number` meets its contract. The loop's invariant: the root is at most s, which is small and not 0. The measure is s.
-- Assumes nothing.
use Prim.Native.Nat.{ℕ, zero, suc, ◌+◌, ◌*◌, ◌-◌, ◌/◌, ◌^◌, ◌≤◌, ◌<◌}
use native.Mathlib.Nat.{lt_trans, mul-le-mul}
use native.Mathlib.Omega.{arith}
use Rattle.pairs.proofs.root.Scaling.{quotient_lt}
use Rattle.pairs.proofs.root.Newton.{above_root, falls, reached}
use Rattle.pairs.proofs.root.starting_number.Goals as goal
use Rattle.pairs.proofs.root.starting_number.Invariants.{Holds}

-- the parabola's product is below 2^22, so the guess is below 2^14
parabola_lt : (i : ℕ) → i < 1024 → i * (3968 - i) < 2 ^ 22
parabola_lt i h = omega (arith, mul-le-mul {n₁ = i} {m₁ = 3968 - i} {n₂ = 1023} {m₂ = 3968} (omega arith) (omega arith))

-- the first step, from a guess g
first_short : (n g : ℕ) → n < 2 ^ 26 → 2304 ≤ g → g < 2 ^ 14 → (g + n / g) / 2 < 2 ^ 15
first_short n g f k m = omega (arith, quotient_lt n g (2 ^ 15) (omega arith) (omega arith))

stepped : (n s : ℕ) → zero < n → zero < s → (s + n / s) / 2 < 2 ^ 15 → Holds n ((s + n / s) / 2)
stepped n s p q h = record { root_below = above_root n s q; above_0 = not_0 n _ p (above_root n s q); short = h }
  where
    not_0 : (n s : ℕ) → zero < n → n < (s + 1) * (s + 1) → zero < s
    not_0 n zero p h = omega arith
    not_0 n (suc s) p h = omega arith

pub loop-s-init : goal.loop-s-init
loop-s-init c = let m = parabola_lt c.args.i c.requires.1 in stepped _ _ (omega arith) (omega arith) (first_short _ _ (omega arith) (omega arith) (omega arith))

pub loop-s-preserved : goal.loop-s-preserved
loop-s-preserved c = let i = c.loop-s.invariant in stepped _ _ (omega arith) i.above_0 (lt_trans (falls _ _ i.above_0 c.loop-s-test.true) i.short)

pub returns : goal.returns
returns c = reached _ _ c.loop-s-test.false c.loop-s.invariant.root_below
