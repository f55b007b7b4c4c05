-- `next_digit` meets its contract: a small divisor divides one word, and any other is scaled until its top bit is set.
-- Assumes nothing.
use mathlib.Core.Path.{◌≡◌, ◌∙◌}
use Prim.Native.Nat.{ℕ, zero, suc, ◌+◌, ◌*◌, ◌/◌, ◌%◌, ◌^◌, ◌≤◌, ◌<◌}
use native.Mathlib.Omega.{arith}
use Rattle.pairs.proofs.division.Digits.{B, unscaled}
use Rattle.pairs.proofs.division.next_digit.Goals as goal

scale_pos : (d s : ℕ) → 2 ^ 63 ≤ d * s → zero < s
scale_pos d zero h = omega arith
scale_pos d (suc s) h = omega arith

gathered : (r x s : ℕ) → (r * B + x) * s ≡ (r * s + x * s / B) * B + x * s % B
gathered r x s = omega arith

pub returns : goal.returns
returns c = let s = c.scale_of-scale.result in
    let r = c.trial_digit-found.result in
    unscaled (c.args.rest * B + c.args.next) r.quotient c.args.d s r.rest (scale_pos c.args.d s c.scale_of-scale.ensures.0)
    (gathered c.args.rest c.args.next s ∙ c.trial_digit-found.ensures.0) c.trial_digit-found.ensures.1
