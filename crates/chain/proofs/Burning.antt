-- What burns, in heat or in mass, is narrow in proportion to itself: it is as wide as X's part of the full rate, and the full rate
-- is at most what burns over the least part that does. By the rounding of one product. Assumes nothing.
use mathlib.Core.Path.{◌≡◌}
use Prim.Native.Nat.{ℕ, zero, ◌+◌, ◌*◌, ◌-◌, ◌≤◌, ◌<◌}
use native.Mathlib.Nat.{le_trans, mul-add, mul-le-mul_left, mul-le-mul_right, mul_right_comm, le_of_mul-le-mul_right}
use native.Mathlib.Omega.{arith}
use lib.Dec.{lit<}
use Rattle.pairs.specs.declared.answer.Pair.{Pair}
use Rattle.pairs.specs.Rounded as R
use Rattle.pairs.specs.Rounded.{U, up, down, rounded}
use Rattle.pairs.specs.Figures.{Figures}
use Rattle.pairs.specs.Answers.{answers}
use Rattle.pairs.proofs.Rounding.{up_covers, down_covers}
use Rattle.pairs.proofs.Agreement.{agreement}
use Rattle.chain.specs.declared.enquiry.Enquiry.{Enquiry}
use Rattle.chain.specs.Chain.{burning, unabsorbed_of}
use Rattle.chain.proofs.Inside.{rounded_near}
use Rattle.chain.proofs.Within.{Held}
use Rattle.chain.proofs.Steps.{burning_kept, unabsorbed_of_kept}
use Rattle.chain.proofs.Exponential.{exp_bound}

-- How wide it is at most where its low end is at most b and 1-X at least the least.
unfoldable pub burning_width : ℕ → ℕ → ℕ
burning_width least b = up ((b + 1) * exp_bound.width) least + 1

-- S times a factor from N to N', at most w apart.
product_near : (S N N' w least b : ℕ) → zero < least → least ≤ N → N' ≤ N + w → down (S * N) U ≤ b → up (S * N') U ≤ down (S * N) U + (up ((b + 1) * w) least + 1)
product_near S N N' w least b z l n u =
    rounded_near (S * N) (S * N') (S * w) (up ((b + 1) * w) least) (omega (arith, mul-le-mul_left S n, mul-add S N w))
    (le_of_mul-le-mul_right part z)
  where
    full : S * least ≤ (b + 1) * U
    full = omega (arith, mul-le-mul_left S l, down_covers (S * N) U (lit< {n = U} tt))

    part : S * w * least ≤ up ((b + 1) * w) least * U * least
    part =
        rw (mul_right_comm S w least)
        (le_trans (mul-le-mul_right w full)
        (rw (mul_right_comm (b + 1) U w, mul_right_comm (up ((b + 1) * w) least) U least)
        (mul-le-mul_right U (up_covers ((b + 1) * w) least z))))

pair_near : (n least b : ℕ) (X : Pair) → zero < least → X.high + least ≤ U → X.high ≤ X.low + exp_bound.width → (burning rounded (R.constant n 1000) X).low ≤ b → (burning rounded (R.constant n 1000) X).high ≤ (burning rounded (R.constant n 1000) X).low + burning_width least b
unfolding burning R.product R.difference R.constant burning_width
pair_near n least b X z l w u = product_near _ (U - X.high) (U - X.low) exp_bound.width least b z (omega arith) (omega arith) u

-- What burns of n thousandths in the pool of one enquiry.
abbrev pub burns : ℕ → Enquiry → Figures
burns n E = burning answers (answers.constant n 1000) (unabsorbed_of answers E)

pub burning_near : (n : ℕ) (E : Enquiry) (least : ℕ) → zero < least → Held (unabsorbed_of answers E) exp_bound → (unabsorbed_of answers E).pair.high + least ≤ U → (burns n E).number ≡ 0 → (b : ℕ) → (burns n E).pair.low ≤ b → (burns n E).pair.high ≤ (burns n E).pair.low + burning_width least b
burning_near n E least z X below given b =
    let x = (unabsorbed_of_kept agreement E).same X.given in
    let q = (burning_kept agreement (agreement.constant n 1000) (unabsorbed_of_kept agreement E)).same given in
    rw q (λ u. pair_near n least b (unabsorbed_of rounded E) z (rw x at below) (rw x at X.inside.near) u)
