-- `trial_digit` meets its contract: what the trial digit takes is r·2^32 + next, or more by at most twice the divisor.
-- Assumes nothing.
use mathlib.Core.Path.{◌≡◌}
use Prim.Native.Nat.{ℕ, zero, suc, ◌+◌, ◌*◌, ◌-◌, ◌/◌, ◌%◌, ◌^◌, ◌≤◌, ◌<◌}
use native.Mathlib.Nat.{mod-lt, div-add-mod', mul-le-mul}
use native.Mathlib.Omega.{arith}
use Rattle.pairs.proofs.division.Digits.{B, trial, trial_le, less_times}
use Rattle.pairs.proofs.division.trial_digit.Goals as goal

-- r·2^32 + next and what the trial digit takes of its lower half, in terms of the divisor
taken : (r x d : ℕ) → r * B + x + r / (d / B) * (d % B) ≡ r / (d / B) * d + (r % (d / B) * B + x)
taken r x d = rw (div-add-mod' r (d / B), div-add-mod' d B) at (trial (r / (d / B)) (d / B) (d % B) (r % (d / B)) x)

rest_lt : (r d : ℕ) → 2 ^ 63 ≤ d → r % (d / B) < d / B
rest_lt r d h = mod-lt r (omega arith)

taken_le : (r d : ℕ) → 2 ^ 63 ≤ d → r < d → r / (d / B) * (d % B) ≤ (B + 1) * (B - 1)
taken_le r d h k = mul-le-mul {n₂ = B + 1} {m₂ = B - 1} (trial_le r d h k) (omega arith)

-- a digit that takes something is not 0, and one that takes more than the divisor is not 1
at_least_1 : (q v : ℕ) → zero < q * v → 1 ≤ q
at_least_1 zero v h = omega arith
at_least_1 (suc q) v h = omega arith

at_least_2 : (q v d : ℕ) → v ≤ d → d < q * v → 2 ≤ q
at_least_2 zero v d l h = omega arith
at_least_2 (suc zero) v d l h = omega arith
at_least_2 (suc (suc q)) v d l h = omega arith

pub returns-then-taken-left : goal.returns-then-taken-left
returns-then-taken-left c = omega (arith, taken c.args.rest c.args.next c.args.d, rest_lt c.args.rest c.args.d c.requires.0)

pub returns-then-short-d : goal.returns-then-short-d
returns-then-short-d c = let q = c.args.rest / (c.args.d / B) in
    omega (arith, taken c.args.rest c.args.next c.args.d, less_times q 1 c.args.d (at_least_1 q (c.args.d % B) (omega arith)))

pub returns : goal.returns
returns c = let q = c.args.rest / (c.args.d / B) in
    omega (
      arith,
      taken c.args.rest c.args.next c.args.d,
      taken_le c.args.rest c.args.d c.requires.0 c.requires.1,
      less_times q 2 c.args.d (at_least_2 q (c.args.d % B) c.args.d (omega arith) (omega arith)),
    )
