-- The claims speak of low flames too: the enquiry of case M in document 01 passes the limits, and its flame is too low, by methods 1
-- and 2, on each face, at each height, through each haze. The flame is bounded by computation. Assumes nothing.
use mathlib.Core.Path.{◌≡◌, refl, ap, ◌∙◌}
use mathlib.Core.Bool.{true, false, ◌&&◌}
use Prim.Native.Nat.{ℕ, zero, suc, ◌*◌, ◌≤◌, ◌<◌}
use native.Mathlib.Omega.{arith}
use lib.IntN.{ℤ}
use lib.Dec.{T, ltb, ltb→lt}
use lib.Ieee.Fits.{and_l, and_r}
use borrow.Author.Tests.{lt-ltb}
use Rattle.pairs.specs.Rounded.{rounded}
use Rattle.pairs.specs.Answers.{answers}
use Rattle.chain.specs.declared.enquiry.Enquiry.{Enquiry}
use Rattle.chain.specs.Chain.{diameter_of, flame_1_of, flame_2_of, flame_of, flame_height_of}
use Rattle.chain.specs.Flux.{Shown, refused, outside, fuel_within, height_outside, flame_too_low, limits, flame_test, flux_of}
use Rattle.chain.specs.Private.{Limited}
use Rattle.chain.proofs.Bounds.{bounds}
use Rattle.chain.proofs.Within.{within}
use Rattle.chain.proofs.Steps.{diameter_of_kept, flame_height_of_kept}
use Rattle.chain.proofs.Opened.{opened}
use Rattle.chain.proofs.Limits.{inside}
use Rattle.chain.proofs.FirstThatApplies.{told, in_two, none_told}
use Rattle.chain.proofs.Unrefused.{unrefused}

abbrev case_M : ℕ → ℕ → ℤ → ℕ → Enquiry
case_M method face height transmissivity =
    record {
      rate = 10;
      absorption = 10;
      heat = 100;
      area = 100;
      method = method;
      distance = 1_000;
      face = face;
      height = height;
      transmissivity = transmissivity;
    }

-- A flame that is too low.
abbrev Low : Enquiry → Type 0
Low E =
    let D = diameter_of bounds E in
    let L = flame_height_of bounds E in
    T (D.safe && L.safe && ltb (4 * L.most) D.least)

module _ (face : ℕ) (height : ℤ) (transmissivity : ℕ) where
  low : (method : ℕ) → 1 ≤ method → method ≤ 2 → Low (case_M method face height transmissivity)
  unfolding opened flame_height_of flame_of flame_1_of flame_2_of
  low zero l h = absurd (omega arith)
  low (suc zero) l h = tt
  low (suc (suc zero)) l h = tt
  low (suc (suc (suc n))) l h = absurd (omega arith)

  module _ (f : outside 1 3 face ≡ false) (h : height_outside height ≡ false) (t : outside 1 1_000 transmissivity ≡ false) (method : ℕ) (least : 1 ≤ method) (most : method ≤ 2) where
    abbrev E : Enquiry
    E = case_M method face height transmissivity

    within_limits : Limited E
    unfolding limits fuel_within
    within_limits = (refl, (refl, (inside 1 3 method least (omega arith), (refl, (f, (h, (t, tt)))))))

    too_low : flame_too_low E ≡ true
    unfolding flame_too_low
    too_low =
        let D = diameter_of bounds E in
        let L = flame_height_of bounds E in
        let tests = low method least most in
        let safe = and_l (D.safe && L.safe) (ltb (4 * L.most) D.least) tests in
        let d = (diameter_of_kept within E).where_safe (and_l D.safe L.safe safe) in
        let l = (flame_height_of_kept within E).where_safe (and_r D.safe L.safe safe) in
        let below = ltb→lt (4 * L.most) D.least (and_r (D.safe && L.safe) (ltb (4 * L.most) D.least) tests) in
        let same = unrefused E within_limits in
        let lower : 4 * (flame_height_of answers E).pair.low < (diameter_of answers E).pair.high = omega (arith, below, d.inside.low, d.inside.ordered, l.inside.ordered, l.inside.high) in
        lt-ltb (4 * (flame_height_of rounded E).low) (diameter_of rounded E).high (rw (same.diameter_given, same.flame_height_given) at lower)

    pub low_flame : (flux_of E).state ≡ 16
    unfolding flux_of
    low_flame =
        ap (λ (s : Shown). s.state)
        (in_two refused (limits E) (flame_test E) _ ∙ none_told refused (limits E) _ within_limits ∙ told refused 0 (flame_test E) 16 _ (too_low, refl))
