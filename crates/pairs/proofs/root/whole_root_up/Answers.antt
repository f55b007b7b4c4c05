-- `whole_root_up` meets its contract: the least s with s·s at least n is one more than the root of n - 1.
-- Assumes nothing.
use mathlib.Core.Path.{◌≡◌}
use Prim.Native.Nat.{ℕ, zero, ◌+◌, ◌^◌, ◌≤◌, ◌<◌}
use native.Mathlib.Nat.{mul-le-mul}
use native.Mathlib.Decide.{dec_lt}
use native.Mathlib.Omega.{arith}
use Rattle.pairs.specs.Rounded.{root_down, root_up}
use Rattle.pairs.proofs.Search.{root_down_passes, root_down_next, root_up_is, root_up_bound}
use Rattle.pairs.proofs.root.whole_root_up.Goals as goal

none : (n : ℕ) → n ≡ zero → 0 ≡ root_up n
none n e = rw e (let k : root_up 0 ≤ 0 = root_up_bound 0 0 (omega arith) in omega arith)

-- the root of a number of at most 104 bits has at most 52
short : (n : ℕ) → n < 2 ^ 104 → root_down n + 1 < 2 ^ 64
short n f =
    elim (dec_lt (root_down n + 1) (2 ^ 64)) [
      | yes h ↦ h
      | no h ↦ absurd (omega (arith, root_down_passes n, mul-le-mul {n₁ = 2 ^ 63} {m₁ = 2 ^ 63} {n₂ = root_down n} {m₂ = root_down n} (omega arith) (omega arith)))
    ]

one_more : (m n : ℕ) → m + 1 ≡ n → root_down m + 1 ≡ root_up n
one_more m n e =
    rw (← e) (omega (arith, root_up_is (m + 1) (root_down m) (omega (arith, root_down_passes m)) (omega (arith, root_down_next m))))

pub returns-then-n-eq0 : goal.returns-then-n-eq0
returns-then-n-eq0 c = none _ (omega arith)

pub overflow_add-result : goal.overflow_add-result
overflow_add-result c = record { fits = rw c.whole_root.ensures (short _ (omega arith)) }

pub returns : goal.returns
returns c = rw c.whole_root.ensures (one_more _ _ (omega arith))
