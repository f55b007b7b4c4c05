-- A target level with the base: the vertical factor of y = [0, 0] is [0, 0], so at height 0 the chain is that of l and e alone.
-- By the operations on [0, 0], one after another. Assumes nothing.
use mathlib.Core.Path.{◌≡◌, refl, ap, ap₂, ◌∙◌}
use mathlib.Core.Bool.{true}
use Prim.Native.Nat.{ℕ, zero, suc, ◌*◌, ◌+◌}
use native.Mathlib.Nat.{div-eq_of_lt, zero-div, zero-sub, sub-zero, zero-add, le_refl}
use native.Mathlib.Omega.{arith}
use lib.IntN.{pos}
use lib.Signed.{non_neg}
use Rattle.pairs.specs.declared.answer.Pair.{Pair}
use Rattle.pairs.specs.Rounded as R
use Rattle.pairs.specs.Rounded.{U, ends, up, down, rounded}
use Rattle.pairs.specs.Figures.{Figures, given}
use Rattle.pairs.specs.Answers.{answers}
use Rattle.pairs.specs.Series.{plus_terms, minus_terms, alternating, power, arc_term, arc, half_angle, atan}
use Rattle.pairs.proofs.Agreement.{itself, agreed, agreement}
use Rattle.chain.specs.declared.enquiry.Enquiry.{Enquiry}
use Rattle.chain.specs.Chain.{in_radii, height_angle, vertical, horizontal, by_face, factor, vertical_above, horizontal_above, factor_at, emissive_power_of, relative_height_of, relative_elevation_of, relative_distance_of, configuration_factor_of, transmitted, clear_flux, radiant_flux}
use Rattle.chain.specs.Private.{Spaced, Prints}
use Rattle.chain.proofs.Steps.{vertical_kept}
use Rattle.chain.proofs.Configuration.{one_factor}
use Rattle.chain.proofs.Haze.{flux_clear, printed_of, printed_from}

abbrev pub nothing : Pair
nothing = ends 0 0

-- ---- operations on [0, 0]
up_0 : (d : ℕ) → up 0 d ≡ 0
unfolding up
up_0 zero = refl
up_0 (suc d) = div-eq_of_lt (omega arith)

down_0 : (d : ℕ) → down 0 d ≡ 0
unfolding down
down_0 d = zero-div d

product_of_0 : (p : Pair) → R.product nothing p ≡ nothing
unfolding R.product up down
product_of_0 p =
    let low : down (0 * p.low) U ≡ 0 = omega arith in
    let high : up (0 * p.high) U ≡ 0 = omega arith in
    λ i. ends (low i) (high i)

quotient_of_0 : (p : Pair) → R.quotient nothing p ≡ nothing
unfolding R.quotient
quotient_of_0 p = λ i. ends (down_0 p.high i) (up_0 p.low i)

over_of_0 : (n : ℕ) → R.over nothing n ≡ nothing
unfolding R.over
over_of_0 n = λ i. ends (down_0 n i) (up_0 n i)

less_0 : (p : Pair) → R.difference p nothing ≡ p
unfolding R.difference
less_0 p = λ i. ends (sub-zero p.low i) (sub-zero p.high i)

0_less : (p : Pair) → R.difference nothing p ≡ nothing
unfolding R.difference
0_less p = λ i. ends (zero-sub p.high i) (zero-sub p.low i)

0_and : (p : Pair) → R.sum nothing p ≡ p
unfolding R.sum
0_and p = λ i. ends (zero-add p.low i) (zero-add p.high i)

-- ---- series
power_of_0 : (j : ℕ) → power rounded nothing j ≡ nothing
unfolding power
power_of_0 zero = refl
power_of_0 (suc j) = ap (λ (p : Pair). R.product p (R.product nothing nothing)) (power_of_0 j) ∙ product_of_0 _

term_of_0 : (j : ℕ) → arc_term rounded nothing j ≡ nothing
unfolding arc_term
term_of_0 j = ap (λ (p : Pair). R.over p (2 * j + 1)) (power_of_0 j) ∙ over_of_0 _

plus_of_0 : (n : ℕ) → plus_terms rounded (arc_term rounded nothing) n ≡ nothing
unfolding plus_terms R.constant
plus_of_0 zero = refl
plus_of_0 (suc n) = ap₂ R.sum (plus_of_0 n) (term_of_0 _) ∙ 0_and nothing

minus_of_0 : (n : ℕ) → minus_terms rounded (arc_term rounded nothing) n ≡ nothing
unfolding minus_terms R.constant
minus_of_0 zero = refl
minus_of_0 (suc n) = ap₂ R.sum (minus_of_0 n) (term_of_0 _) ∙ 0_and nothing

arc_of_0 : arc rounded nothing ≡ nothing
unfolding arc alternating R.high_only
arc_of_0 =
    ap₂ R.difference (ap₂ R.sum (plus_of_0 8) (ap R.high_only (term_of_0 16)) ∙ 0_and nothing) (minus_of_0 8) ∙ less_0 nothing

atan_of_0 : atan rounded nothing ≡ nothing
unfolding atan half_angle R.times
atan_of_0 =
    ap (λ (p : Pair). R.times (arc rounded p) 4) (ap (half_angle rounded) (quotient_of_0 _) ∙ quotient_of_0 _)
    ∙ ap (λ (p : Pair). R.times p 4) arc_of_0

-- ---- step 7
height_angle_of_0 : (e : Pair) → height_angle rounded nothing e ≡ nothing
unfolding height_angle
height_angle_of_0 e =
    ap₂ R.quotient (ap (atan rounded) (quotient_of_0 _) ∙ atan_of_0) refl ∙ quotient_of_0 _

slope_of_0 : (e p : Pair) → R.product (R.quotient nothing e) p ≡ nothing
slope_of_0 e p = ap₂ R.product (quotient_of_0 e) refl ∙ product_of_0 p

pub vertical_of_0 : (e : Pair) → vertical rounded nothing e ≡ nothing
unfolding vertical
vertical_of_0 e =
    ap₂ R.quotient
    (ap₂ R.difference
    (ap₂ R.sum (height_angle_of_0 e) (ap₂ R.product (slope_of_0 _ _) refl ∙ product_of_0 _) ∙ 0_and nothing)
    (slope_of_0 _ _)
    ∙ less_0 nothing)
    refl
    ∙ quotient_of_0 _

above_level : (l e : Pair) → vertical_above rounded l nothing e ≡ vertical rounded l e
unfolding vertical_above
above_level l e =
    ap₂ R.difference
    (ap₂ R.sum (vertical_of_0 e) (ap (λ (y : Pair). vertical rounded y e) (less_0 l)) ∙ 0_and _)
    (ap (λ (y : Pair). vertical rounded y e) (0_less l) ∙ vertical_of_0 e)
    ∙ less_0 _

pub factor_level : (face : ℕ) (l e : Pair) → factor_at rounded true face l nothing e ≡ factor rounded face l e
unfolding factor_at factor horizontal_above
factor_level face l e =
    ap₂ (by_face rounded face) (above_level l e) (ap (λ (y : Pair). horizontal rounded y e) (less_0 l))

-- ---- the chain
-- E·F as it was before there were heights: with step 7's factor of l and e.
abbrev pub level_flux : Enquiry → Pair
level_flux E = R.product (emissive_power_of rounded E) (factor rounded E.face (relative_height_of rounded E) (relative_distance_of rounded E))

pub clear_level : (E : Enquiry) → E.height ≡ pos 0 → clear_flux rounded E ≡ level_flux E
unfolding clear_flux configuration_factor_of relative_elevation_of in_radii R.constant
clear_level E level =
    ap₂ R.product refl
    (λ i. factor_at rounded (non_neg (level i)) E.face (relative_height_of rounded E) (elevation_0 i) (relative_distance_of rounded E))
    ∙ ap₂ R.product refl (factor_level E.face (relative_height_of rounded E) (relative_distance_of rounded E))
  where
    elevation_0 : relative_elevation_of rounded E ≡ nothing
    elevation_0 = rw level (quotient_of_0 _)

-- Request 1: "Height 0 must print what it printed before", here through any haze.
pub printed_level :
    (E : Enquiry) → E.height ≡ pos 0 → Prints (transmitted rounded E.transmissivity (level_flux E)) E.method (printed_of E)
unfolding radiant_flux
printed_level E level = printed_from E _ (ap (transmitted rounded E.transmissivity) (clear_level E level))

-- In clear air it is what was printed before there was haze, too.
pub printed_level_clear : (E : Enquiry) → E.height ≡ pos 0 → E.transmissivity ≡ 1000 → Prints (level_flux E) E.method (printed_of E)
printed_level_clear E level at_1000 = printed_from E (level_flux E) (flux_clear E at_1000 ∙ clear_level E level)

-- ---- what the code answers
pub vertical_answer_of_0 : {e : Figures} → Spaced e → vertical answers (given nothing) e ≡ given nothing
vertical_answer_of_0 {e} k =
    agreed (vertical_kept agreement (itself (given nothing) (λ _. record { ends = le_refl 0 })) (itself e (λ _. record { ends = k.ordered })))
    (one_factor (record { given = refl; inside = record { low = le_refl 0; ordered = le_refl 0; high = omega arith; near = omega arith } }) k).upright.given
    ∙ ap given (vertical_of_0 e.pair)
