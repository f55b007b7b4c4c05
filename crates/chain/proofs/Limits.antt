-- The tests of one flux as facts: numbers inside their limits, an accepted enquiry as one to which no number applies, and the
-- numbers of refusals above 0.
-- By the laws of a list of tests. Assumes nothing.
use mathlib.Core.Path.{◌≡◌, refl, subst, ap₂}
use mathlib.Core.Bool.{Bool, true, false, ◌&&◌, not}
use Prim.Native.Nat.{ℕ, ◌≤◌, ◌<◌}
use native.Mathlib.Nat.{le_trans}
use native.Mathlib.Omega.{arith}
use lib.Dec.{T, leb, ltb, eqb, leb→le, lit≤, lit<}
use lib.Ieee.Fits.{and_r}
use borrow.Author.Tests.{eq-eqb, le-leb, lt-leb, lt-ltb, le-ltb}
use native.Mathlib.Decide.{dec_le}
use lib.IntN.{ℤ, pos, negsuc, nat_abs}
use Rattle.chain.specs.declared.enquiry.Enquiry.{Enquiry}
use Rattle.chain.specs.declared.enquiry.Turned.{Turned}
use Rattle.chain.specs.declared.enquiry.Turned.TheVariants as turned
use Rattle.chain.specs.Flux.{Shown, refused, number_of, outside, fuel_within, height_outside, flame_too_low, accepted, limits, flame_test, tests, flux_of}
use Rattle.chain.specs.Tests.{Test}
use Rattle.chain.specs.Private.{NoneApplies, Limited}
use Rattle.chain.proofs.FirstThatApplies.{every_test, by_every_test, none_of_first, none_of_last, none_of_both, in_two, none_told, past_tests}

pub record Between (least n most : ℕ) : Type 0 where
  pub low : least ≤ n
  pub high : n ≤ most

both : (a b : Bool) → not (a && b) ≡ false → T a × T b
both true true e = (tt, tt)
both true false e = absurd (subst T e tt)
both false b e = absurd (subst T e tt)

pub between : (least most n : ℕ) → outside least most n ≡ false → Between least n most
between least most n e =
    let t = both (leb least n) (leb n most) e in
    record { low = leb→le least n t.0; high = leb→le n most t.1 }

-- A number between its limits is not outside them.
pub inside : (least most n : ℕ) → least ≤ n → n ≤ most → outside least most n ≡ false
inside least most n l h = rw (le-leb least n l, le-leb n most h)

-- The test in two: below the least, or by the most.
pub outside_below : (least most n : ℕ) → n < least → true ≡ outside least most n
outside_below least most n h = rw (lt-leb least n h)

pub outside_by_most : (least most n : ℕ) → least ≤ n → ltb most n ≡ outside least most n
outside_by_most least most n h =
    elim (dec_le n most) [
      | yes k ↦ rw (le-leb least n h, le-leb n most k) (le-ltb most n k)
      | no k ↦ let l : most < n = omega arith in rw (le-leb least n h, lt-leb n most l) (lt-ltb most n l)
    ]

three : (a b c : Bool) → not (not a && not b && not c) ≡ false → (a ≡ false) × (b ≡ false) × (c ≡ false)
three false false false e = (refl, refl, refl)
three true b c e = absurd (subst T e tt)
three false true c e = absurd (subst T e tt)
three false false true e = absurd (subst T e tt)

-- ---- the numbers of an enquiry inside their limits
pub record Fuel (E : Enquiry) : Type 0 where
  pub rate : Between 10 E.rate 150
  pub absorption : Between 10 E.absorption 500
  pub heat : Between 100 E.heat 500

pub record Numbers (E : Enquiry) : Type 0 where
  pub fuel : Fuel E
  pub area : Between 100 E.area 190_000
  pub method : Between 1 E.method 3
  pub distance : Between 1_000 E.distance 200_000
  pub face : Between 1 E.face 3
  pub height : nat_abs E.height ≤ 20_000
  pub transmissivity : Between 1 E.transmissivity 1_000

pub fuel : (E : Enquiry) → not (fuel_within E) ≡ false → Fuel E
unfolding fuel_within
fuel E e =
    let t = three (outside 10 150 E.rate) (outside 10 500 E.absorption) (outside 100 500 E.heat) e in
    record {
      rate = between 10 150 E.rate t.0;
      absorption = between 10 500 E.absorption t.1;
      heat = between 100 500 E.heat t.2;
    }

height : (z : ℤ) → height_outside z ≡ false → nat_abs z ≤ 20_000
unfolding height_outside
height (pos n) e = (between 0 20_000 n e).high
height (negsuc n) e = le_trans (between 0 5_000 _ e).high (lit≤ tt)

pub numbers : (E : Enquiry) → Limited E → Numbers E
unfolding limits
numbers E (t11, (t12, (t13, (t14, (t15, (t18, (t19, _))))))) =
    record {
      fuel = fuel E t11;
      area = between 100 190_000 E.area t12;
      method = between 1 3 E.method t13;
      distance = between 1_000 200_000 E.distance t14;
      face = between 1 3 E.face t15;
      height = height E.height t18;
      transmissivity = between 1 1_000 E.transmissivity t19;
    }

-- ---- an enquiry to which no number applies
-- No number from 11 to 16 applies, nor 18 or 19.
abbrev pub Tested : Enquiry → Type 0
Tested E = NoneApplies (tests E)

pub limited : (E : Enquiry) → Tested E → Limited E
limited E = none_of_first (limits E) (flame_test E)

pub flame_high_enough : (E : Enquiry) → Tested E → flame_too_low E ≡ false
flame_high_enough E t = (none_of_last (limits E) (flame_test E) t).0

pub tested : (E : Enquiry) → Limited E → flame_too_low E ≡ false → Tested E
tested E w f = none_of_both (limits E) (flame_test E) w (f, tt)

-- Its figures are shown.
pub shown : (E : Enquiry) → Tested E → flux_of E ≡ accepted E
unfolding flux_of
shown E = none_told refused (tests E) _

-- ---- what a state says of the tests
-- Their numbers are from 11 to 19. A state that is none of these is 0, and comes after all tests.
abbrev from_11_to_19 : ℕ → Bool
from_11_to_19 n = leb 11 n && leb n 19

past_flux_tests : (E : Enquiry) (k : ℕ) → (T (from_11_to_19 k) → ⊥) → (flux_of E).state ≡ k → Tested E × (0 ≡ k)
unfolding flux_of limits
past_flux_tests E k other e =
    past_tests refused (λ (s : Shown). s.state ≡ k) (tests E) _
    (by_every_test (λ t. t.applies ≡ true → t.number ≡ k → ⊥) (λ t. from_11_to_19 t.number) (λ t n _ z. other (subst (λ m. T (from_11_to_19 m)) z n)) (tests E) tt) e

-- A number that no test tells: none has it, or the one that has it does not apply.
abbrev pub untold : ℕ → Test → Bool
untold k t = not (eqb t.number k && t.applies)

pub not_told : (k : ℕ) (t : Test) → T (untold k t) → t.applies ≡ true → t.number ≡ k → ⊥
not_told k t u a z = subst (λ b. T (not b)) (ap₂ ◌&&◌ (eq-eqb t.number k z) a) u

-- A state that the limits do not tell comes after them.
pub past_limits : (E : Enquiry) (k : ℕ) → T (every_test (untold k) (limits E)) → (flux_of E).state ≡ k → Limited E
unfolding flux_of
past_limits E k u e =
    (past_tests refused (λ (s : Shown). s.state ≡ k) (limits E) _ (by_every_test _ (untold k) (not_told k) (limits E) u)
    (rw (in_two refused (limits E) (flame_test E) _) at e)).0

pub accepted_tested : (E : Enquiry) → (flux_of E).state ≡ 0 → Tested E
accepted_tested E e = (past_flux_tests E 0 (λ t. t) e).0

-- No flux is refused by a number above 19.
pub never_above_19 : (E : Enquiry) (k : ℕ) → 19 < k → (flux_of E).state ≡ k → ⊥
never_above_19 E k l e =
    let z = (past_flux_tests E k (λ t. let u = leb→le k 19 (and_r (leb 11 k) (leb k 19) t) in omega (arith, u)) e).1 in
    omega (arith, z)

-- No refusal has the number 0.
pub number_above_0 : (why : Turned) → 0 < number_of why
number_above_0 turned.Fuel = lit< tt
number_above_0 turned.Area = lit< tt
number_above_0 turned.Method = lit< tt
number_above_0 turned.Distance = lit< tt
number_above_0 turned.Face = lit< tt
number_above_0 turned.Height = lit< tt
number_above_0 turned.Transmissivity = lit< tt
number_above_0 turned.LowFlame = lit< tt
