-- What a high end covers: that of a constant is the constant, and that of a quotient, of an over and of a root is no less than what it
-- stands for. By the rounding upwards of each. Assumes nothing.
use mathlib.Core.Path.{◌≡◌}
use Prim.Native.Nat.{ℕ, zero, ◌*◌, ◌/◌, ◌≤◌, ◌<◌}
use Rattle.pairs.specs.declared.answer.Pair.{Pair}
use Rattle.pairs.specs.Rounded.{U, constant, quotient, over, root}
use Rattle.pairs.proofs.Rounding.{up_covers}
use Rattle.pairs.proofs.Search.{root_up_passes}

pub constant_high : (n d k : ℕ) → n * U / d ≡ k → (constant n d).high ≡ k
unfolding constant
constant_high n d k e = e

pub quotient_covers : (p q : Pair) → zero < q.low → p.high * U ≤ (quotient p q).high * q.low
unfolding quotient
quotient_covers p q z = up_covers (p.high * U) q.low z

pub over_covers : (p : Pair) (n : ℕ) → zero < n → p.high ≤ (over p n).high * n
unfolding over
over_covers p n z = up_covers p.high n z

pub root_covers : (p : Pair) → p.high * U ≤ (root p).high * (root p).high
unfolding root
root_covers p = root_up_passes (p.high * U)
