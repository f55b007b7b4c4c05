-- To an enquiry with its facts no number of the limits applies.
-- By the laws of the limits. Assumes nothing.
use mathlib.Core.Path.{◌≡◌, refl}
use mathlib.Core.Bool.{false}
use Prim.Native.Nat.{ℕ}
use Rattle.chain.specs.declared.allowed.Allowed.{Allowed}
use Rattle.chain.specs.declared.kinds.Method.{Method}
use Rattle.chain.specs.declared.kinds.Method.TheVariants.{ByDiameter, ByHeat, Smoky}
use Rattle.chain.specs.declared.kinds.Face.{Face}
use Rattle.chain.specs.declared.kinds.Face.TheVariants.{Vertical, Horizontal, Tilted}
use Rattle.chain.specs.Flux.{outside, fuel_within, limits}
use Rattle.chain.specs.Private.{method_number, face_number, Limited}
use Rattle.chain.proofs.Limits.{inside}

-- A method and a face have numbers from 1 to 3.
pub method_inside : (m : Method) {n : ℕ} → method_number m ≡ n → outside 1 3 n ≡ false
method_inside ByDiameter e = rw (← e) refl
method_inside ByHeat e = rw (← e) refl
method_inside Smoky e = rw (← e) refl

pub face_inside : (f : Face) {n : ℕ} → face_number f ≡ n → outside 1 3 n ≡ false
face_inside Vertical e = rw (← e) refl
face_inside Horizontal e = rw (← e) refl
face_inside Tilted e = rw (← e) refl

pub limited_of : (a : Allowed) → Limited a.enquiry
unfolding limits fuel_within
limited_of a =
    let E = a.enquiry in (
      rw (inside 10 150 E.rate a.rate.0 a.rate.1, inside 10 500 E.absorption a.absorption.0 a.absorption.1, inside 100 500 E.heat a.heat.0 a.heat.1) refl,
      (
        inside 100 190_000 E.area a.area.0 a.area.1,
        (
          method_inside a.method a.method_is,
          (
            inside 1_000 200_000 E.distance a.distance.0 a.distance.1,
            (face_inside a.face a.face_is, (a.height, (inside 1 1_000 E.transmissivity a.transmissivity.0 a.transmissivity.1, tt))),
          ),
        ),
      ),
    )
