-- How far apart low and high are at most as printed, in W/m².
-- From the widths of q, brought outwards to whole W/m². Assumes nothing.
use Prim.Native.Nat.{ℕ, zero, suc, ◌+◌, ◌*◌, ◌≤◌}
use native.Mathlib.Omega.{arith}
use lib.Dec.{lit≤, eqb}
use Rattle.pairs.specs.Rounded.{U, up, down}
use Rattle.chain.specs.Flux.{low_of, high_of}
use Rattle.chain.proofs.Boxes.{either}
use Rattle.chain.proofs.Opened.{opened}
use Rattle.chain.proofs.FaceBounds.{face_bound}
use Rattle.chain.proofs.Flame.{emissive_bound}
use Rattle.chain.proofs.Limits.{numbers, limited, shown, accepted_tested}
use Rattle.chain.proofs.Unrefused.{unrefused}
use Rattle.widths.specs.Narrow.{by_number, at_any_height, at_height_0, Widths}
use Rattle.widths.proofs.FactorWidths.{level_bound, above_bound, below_bound}
use Rattle.widths.proofs.FluxWidths.{clear_bound, width_of, level_width_of, flux_near, level_near}

-- Low and high of a q that is so many trillionths of a kW/m² wide.
unfoldable printed : ℕ → ℕ
printed width = up (1000 * width) U + 1

in_order : (l h : ℕ) → l ≤ h → down (1000 * l) U ≤ up (1000 * h) U
unfolding up down
in_order l h o = omega arith

outwards : (l h w : ℕ) → h ≤ l + w → up (1000 * h) U ≤ down (1000 * l) U + printed w
unfolding printed up down
outwards l h w k = omega arith

-- ---- by method and face
of_three : (P : ℕ → Type 0) → P 1 → P 2 → P 3 → (n : ℕ) → 1 ≤ n → n ≤ 3 → P n
of_three P a b c zero l h = absurd (omega arith)
of_three P a b c (suc zero) l h = a
of_three P a b c (suc (suc zero)) l h = b
of_three P a b c (suc (suc (suc zero))) l h = c
of_three P a b c (suc (suc (suc (suc n)))) l h = absurd (omega arith)

-- What holds for each method and face.
each_case :
    (P : ℕ → ℕ → Type 0) → P 1 1 → P 1 2 → P 1 3 → P 2 1 → P 2 2 → P 2 3 → P 3 1 → P 3 2 → P 3 3
    → (method face : ℕ) → 1 ≤ method → method ≤ 3 → 1 ≤ face → face ≤ 3 → P method face
each_case P a b c d e f g h i method face l u =
    of_three (λ m. (face : ℕ) → 1 ≤ face → face ≤ 3 → P m face) (of_three (P 1) a b c) (of_three (P 2) d e f) (of_three (P 3) g h i) method l u face

any_height : (method face : ℕ) → 1 ≤ method → method ≤ 3 → 1 ≤ face → face ≤ 3 → printed (width_of method face + 1) ≤ at_any_height method face
unfolding opened at_any_height by_number printed width_of clear_bound emissive_bound above_bound below_bound face_bound
any_height =
    each_case (λ method face. printed (width_of method face + 1) ≤ at_any_height method face) (lit≤ tt) (lit≤ tt) (lit≤ tt) (lit≤ tt) (lit≤ tt) (lit≤ tt) (lit≤ tt) (lit≤ tt) (lit≤ tt)

level : (method face : ℕ) → 1 ≤ method → method ≤ 3 → 1 ≤ face → face ≤ 3 → printed (level_width_of method face + 1) ≤ at_height_0 method face
unfolding opened at_height_0 by_number printed level_width_of clear_bound emissive_bound level_bound face_bound
level =
    each_case (λ method face. printed (level_width_of method face + 1) ≤ at_height_0 method face) (lit≤ tt) (lit≤ tt) (lit≤ tt) (lit≤ tt) (lit≤ tt) (lit≤ tt) (lit≤ tt) (lit≤ tt) (lit≤ tt)

pub widths : Widths
unfolding low_of high_of
widths E e =
    let t = accepted_tested E e in
    let n = numbers E (limited E t) in
    let m = n.method in
    let f = n.face in
    let w = any_height E.method E.face m.low m.high f.low f.high in
    let v = level E.method E.face m.low m.high f.low f.high in
    let s = shown E t in
    record {
      ordered = rw s (in_order _ _ (unrefused E (limited E t)).ordered);
      near = rw s (omega (arith, outwards _ _ (width_of E.method E.face + 1) (flux_near E t), w));
      near_level = λ z. rw s (omega (arith, outwards _ _ (level_width_of E.method E.face + 1) (level_near E t z), v));
    }

-- Demand 3's 20 W/m² cover them all.
of_three_within_20 : (n : ℕ) {a b c : ℕ} → a ≤ 20 → b ≤ 20 → c ≤ 20 → by_number n a b c ≤ 20
unfolding by_number
of_three_within_20 n h k l = either (λ m. m ≤ 20) (eqb n 1) h (either (λ m. m ≤ 20) (eqb n 2) k l)

pub within_20 : (method face : ℕ) → at_any_height method face ≤ 20
unfolding at_any_height
within_20 method face =
    of_three_within_20 method (of_three_within_20 face (lit≤ tt) (lit≤ tt) (lit≤ tt))
    (of_three_within_20 face (lit≤ tt) (lit≤ tt) (lit≤ tt)) (of_three_within_20 face (lit≤ tt) (lit≤ tt) (lit≤ tt))
