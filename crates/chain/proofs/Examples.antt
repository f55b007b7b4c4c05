-- An accepted enquiry for each method, face, height and transmissivity: the pool of ISO 24678-7, A.8, so that nothing is said of no
-- enquiry at all. Its flame height and diameter are bounded by computation, without a search for a root. Assumes nothing.
use mathlib.Core.Path.{◌≡◌, refl, ap}
use mathlib.Core.Bool.{false, ◌&&◌}
use Prim.Native.Nat.{ℕ, ◌*◌, ◌≤◌}
use native.Mathlib.Nat.{le_trans, mul-le-mul_left}
use lib.IntN.{ℤ, pos, negsuc}
use lib.Dec.{T, leb, eqb, leb→le}
use lib.Ieee.Fits.{and_l, and_r}
use borrow.Author.Tests.{le-ltb}
use Rattle.pairs.specs.Rounded.{rounded}
use Rattle.pairs.specs.Answers.{answers}
use Rattle.chain.specs.declared.enquiry.Enquiry.{Enquiry}
use Rattle.chain.specs.Chain.{Flame, diameter_of, flame_1_of, flame_2_of, flame_3_of, flame_of, flame_height_of}
use Rattle.chain.specs.Flux.{outside, fuel_within, height_outside, flame_too_low, limits, flux_of, Shown}
use Rattle.chain.specs.Private.{Limited}
use Rattle.chain.proofs.Bounds.{Bound, bounds}
use Rattle.chain.proofs.Within.{within}
use Rattle.chain.proofs.Steps.{diameter_of_kept, flame_height_of_kept}
use Rattle.chain.proofs.Boxes.{either}
use Rattle.chain.proofs.Opened.{opened}
use Rattle.chain.proofs.Limits.{tested, shown}
use Rattle.chain.proofs.Unrefused.{unrefused}

abbrev pub example : ℕ → ℕ → ℤ → ℕ → Enquiry
example method face height transmissivity =
    record {
      rate = 39;
      absorption = 350;
      heat = 432;
      area = 7_854;
      method = method;
      distance = 15_000;
      face = face;
      height = height;
      transmissivity = transmissivity;
    }

-- The flame of the pool is high enough by each method: nothing in it depends on the face, the height or the haze.
abbrev Tall : Flame Bound → Type 0
Tall f =
    let D = diameter_of bounds (example 1 1 (pos 0) 1) in
    T (D.safe && f.height.safe && leb D.most (4 * f.height.least))

module _ (method face : ℕ) (height : ℤ) (transmissivity : ℕ) where
  abbrev E : Enquiry
  E = example method face height transmissivity

  tall : Tall (flame_of bounds E)
  unfolding opened flame_of flame_1_of flame_2_of flame_3_of
  tall = either Tall (eqb method 1) {x = flame_1_of bounds E} tt (either Tall (eqb method 2) {x = flame_2_of bounds E} {y = flame_3_of bounds E} tt tt)

  module _ (m : outside 1 3 method ≡ false) (f : outside 1 3 face ≡ false) (h : height_outside height ≡ false) (t : outside 1 1_000 transmissivity ≡ false) where
    within_limits : Limited E
    unfolding limits fuel_within
    within_limits = (refl, (refl, (m, (refl, (f, (h, (t, tt)))))))

    flame_fits : flame_too_low E ≡ false
    unfolding flame_too_low diameter_of flame_height_of
    flame_fits =
        let D = diameter_of bounds E in
        let L = flame_height_of bounds E in
        let t = tall in
        let d = (diameter_of_kept within E).where_safe (and_l D.safe L.safe (and_l (D.safe && L.safe) (leb D.most (4 * L.least)) t)) in
        let l = (flame_height_of_kept within E).where_safe (and_r D.safe L.safe (and_l (D.safe && L.safe) (leb D.most (4 * L.least)) t)) in
        let most = leb→le D.most (4 * L.least) (and_r (D.safe && L.safe) (leb D.most (4 * L.least)) t) in
        let same = unrefused E within_limits in
        let high : (diameter_of answers E).pair.high ≤ 4 * (flame_height_of answers E).pair.low = le_trans d.inside.high (le_trans most (mul-le-mul_left 4 l.inside.low)) in
        le-ltb (4 * (flame_height_of rounded E).low) (diameter_of rounded E).high (rw (same.diameter_given, same.flame_height_given) at high)

    -- For each method, face, height and transmissivity an enquiry is accepted.
    pub each_accepted : (flux_of E).state ≡ 0
    each_accepted = ap (λ (s : Shown). s.state) (shown E (tested E within_limits flame_fits))

-- So from the base up, at the base and below it, through any haze.
module _ (method face transmissivity : ℕ) (m : outside 1 3 method ≡ false) (f : outside 1 3 face ≡ false) (t : outside 1 1_000 transmissivity ≡ false) where
  pub above_accepted : (flux_of (example method face (pos 2_000) transmissivity)).state ≡ 0
  unfolding height_outside
  above_accepted = each_accepted method face (pos 2_000) transmissivity m f refl t

  pub level_accepted : (flux_of (example method face (pos 0) transmissivity)).state ≡ 0
  unfolding height_outside
  level_accepted = each_accepted method face (pos 0) transmissivity m f refl t

  pub below_accepted : (flux_of (example method face (negsuc 1_999) transmissivity)).state ≡ 0
  unfolding height_outside
  below_accepted = each_accepted method face (negsuc 1_999) transmissivity m f refl t
