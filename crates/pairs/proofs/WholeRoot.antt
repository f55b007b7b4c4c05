-- A root is never too large; and the whole part of the root of a whole number, from the root of as many trillionths. By squares.
-- Assumes nothing.
use mathlib.Core.Path.{◌≡◌, refl, sym, ap, ◌∙◌}
use Prim.Native.Nat.{ℕ, ◌*◌, ◌/◌, ◌^◌, ◌≤◌, ◌<◌}
use native.Mathlib.Nat.{le_refl}
use native.Mathlib.Omega.{arith}
use lib.Dec.{lit<}
use Rattle.pairs.specs.declared.answer.Pair.{Pair}
use Rattle.pairs.specs.Rounded as rounded
use Rattle.pairs.specs.Rounded.{U, ends, root_down, root_up}
use Rattle.pairs.specs.Figures.{Figures, given}
use Rattle.pairs.specs.Answers.{root_of}
use Rattle.pairs.proofs.Search.{root_down_scaled, root_up_bound}
use Rattle.pairs.proofs.Turned.{root_turned}

-- a root is a word
pub root_up_short : (b : ℕ) → b < 2 ^ 64 → root_up (b * U) < 2 ^ 64
root_up_short b f = let k : root_up (b * U) ≤ 2 ^ 63 = root_up_bound (b * U) (2 ^ 63) (omega arith) in omega arith

pub root_given : (p : Pair) → p.low ≤ p.high → p.high < 2 ^ 64 → given (rounded.root p) ≡ root_of p
unfolding rounded.root
root_given p o f = (root_turned p).is o refl (root_up_short p.high f)

pub whole_root : (n : ℕ) → n < 2 ^ 64 → (root_of (ends n n)).pair.low / 1_000_000 ≡ root_down n
unfolding rounded.root
whole_root n f =
    ap (λ (a : Figures). a.pair.low / 1_000_000) (sym (root_given (ends n n) (le_refl n) f)) ∙ root_down_scaled n 1_000_000 (lit< tt)
