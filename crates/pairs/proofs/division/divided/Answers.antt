-- `divided` meets its contract: two digits, each of what the one before it leaves.
-- Assumes nothing.
use mathlib.Core.Path.{◌≡◌, sym, ◌∙◌, ap}
use Prim.Native.Nat.{ℕ, ◌+◌, ◌*◌, ◌/◌, ◌%◌, ◌^◌}
use native.Mathlib.Omega.{arith}
use Rattle.pairs.proofs.division.Digits.{B, lower, digit_lt, two_digits}
use Rattle.pairs.proofs.division.divided.Goals as goal

-- a number by its upper word and its two lower digits
split : (n : ℕ) → n / 2 ^ 64 * 2 ^ 64 + (n / B % B * B + n % B) ≡ n
split n = omega arith

pub overflow_add-result : goal.overflow_add-result
overflow_add-result c = let f = c.next_digit-first in
    let g = c.next_digit-second in
    let n = c.args.n in
    omega (
      arith,
      digit_lt (n / 2 ^ 64) (n / B % B) _ c.args.d _ c.requires (lower _) f.ensures.0 f.ensures.1,
      digit_lt f.result.rest (n % B) _ c.args.d _ f.ensures.1 (lower _) g.ensures.0 g.ensures.1,
    )

pub returns : goal.returns
returns c = let f = c.next_digit-first in
    let g = c.next_digit-second in
    let n = c.args.n in
    sym
    (two_digits (n / 2 ^ 64) (n / B % B) (n % B) c.args.d f.result.quotient f.result.rest g.result.quotient g.result.rest f.ensures.0 g.ensures.0
    g.ensures.1)
    ∙ ap (λ (x : ℕ). x / c.args.d) (split n)
