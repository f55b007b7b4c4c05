-- An exact length in radii, a distance or a height, is as narrow in proportion as the radius is; and a length of a quarter of the
-- diameter is at least 0.4 radii. By the rounding of one quotient. Assumes nothing.
use mathlib.Core.Path.{◌≡◌, subst}
use Prim.Native.Nat.{ℕ, zero, ◌+◌, ◌*◌, ◌/◌, ◌≤◌, ◌<◌}
use native.Mathlib.Nat.{le_trans, mul-add, add-mul, one-mul, mul_assoc, mul-le-mul_left, mul-le-mul_right}
use native.Mathlib.Omega.{arith}
use lib.Dec.{lit<}
use Rattle.pairs.specs.declared.answer.Pair.{Pair}
use Rattle.pairs.specs.Rounded as R
use Rattle.pairs.specs.Rounded.{U, up, down, rounded}
use Rattle.pairs.specs.Answers.{answers}
use Rattle.pairs.proofs.Rounding.{up_least, down_covers, down_greatest}
use Rattle.pairs.proofs.Agreement.{agreement}
use Rattle.chain.specs.declared.enquiry.Enquiry.{Enquiry}
use Rattle.chain.specs.Chain.{radius, in_radii, diameter_of}
use Rattle.chain.proofs.Bounds as B
use Rattle.chain.proofs.Bounds.{Bound, bound}
use Rattle.chain.proofs.Inside.{Inside, over_inside}
use Rattle.chain.proofs.Within.{Held}
use Rattle.chain.proofs.Steps.{diameter_of_kept, in_radii_kept}

-- How wide an exact length in radii is at most, by its low end.
abbrev pub thin : ℕ → ℕ
thin e = e / 5_000_000_000 + 2

quotient_near : (n c d w : ℕ) → zero < c → c ≤ d → d ≤ c + w → w * 5_000_000_000 ≤ c → up n c ≤ down n d + thin (down n d)
quotient_near n c d w z l h k =
    let S = down n d in
    let P = S / 5_000_000_000 + 1 in
    up_least n c (S + thin S) z
    (omega (arith, down_covers n d (le_trans z l), mul-le-mul_left (S + 1) h, mul-add (S + 1) c w, wide S P (omega arith), add-mul S 1 d, add-mul (S + 1) P c, one-mul d))
  where
    wide : (S P : ℕ) → S + 1 ≤ P * 5_000_000_000 → (S + 1) * w ≤ P * c
    wide S P steps = le_trans (mul-le-mul_right w steps) (rw (mul_assoc P 5_000_000_000 w) (mul-le-mul_left P (omega arith)))

radius_narrow : (m w : ℕ) → U ≤ m → w * 6_000_000_000 ≤ m → (up w 2 + 1) * 5_000_000_000 ≤ down m 2
unfolding up down
radius_narrow m w h k = omega arith

pair_near : (n : ℕ) (D : Pair) (b : Bound) → Inside D b → U ≤ b.least → b.width * 6_000_000_000 ≤ b.least → (in_radii rounded (R.constant n 1000) D).high ≤ (in_radii rounded (R.constant n 1000) D).low + thin (in_radii rounded (R.constant n 1000) D).low
unfolding in_radii radius R.quotient R.constant B.over bound
pair_near n D b h m w =
    let i = over_inside h 2 (lit< tt) in
    let narrow = radius_narrow b.least b.width m w in
    quotient_near _ _ _ (up b.width 2 + 1) (omega (arith, i.low, narrow)) i.ordered i.near (omega (arith, i.low, narrow))

-- n/1000 metres in radii of one enquiry's pool.
pub radii_near : (n : ℕ) (E : Enquiry) (D : Bound) → Held (diameter_of answers E) D → U ≤ D.least → D.width * 6_000_000_000 ≤ D.least → (in_radii answers (answers.constant n 1000) (diameter_of answers E)).number ≡ 0 → (in_radii answers (answers.constant n 1000) (diameter_of answers E)).pair.high ≤ (in_radii answers (answers.constant n 1000) (diameter_of answers E)).pair.low + thin (in_radii answers (answers.constant n 1000) (diameter_of answers E)).pair.low
radii_near n E D h m w given =
    let d = (diameter_of_kept agreement E).same h.given in
    let e = (in_radii_kept agreement (agreement.constant n 1000) (diameter_of_kept agreement E)).same given in
    rw e (pair_near n (diameter_of rounded E) D (subst (λ (p : Pair). Inside p D) d h.inside) m w)

-- A quarter of the diameter is half a radius, less the roundings.
pub quarter_in_radii : (L D : Pair) → U ≤ D.high → D.high ≤ 4 * L.low → 400_000_000_000 ≤ (in_radii rounded L D).low
unfolding in_radii radius R.quotient R.over up
quarter_in_radii L D m h = down_greatest (L.low * U) (up D.high 2) 400_000_000_000 (omega arith) (omega arith)
