-- Floats, and groups of them, that are neither a NaN nor an infinity and have no sign. By the value that each has. Assumes nothing.
use mathlib.Core.Path.{◌≡◌, refl}
use mathlib.Core.Bool.{Bool, true, false, not, ◌&&◌, false≢true}
use native.Mathlib.Omega.{arith}
use lib.Dec.{T}
use lib.Ieee.{Float, nan, inf, fin, is_nan}
use Rattle.drawing.specs.declared.figures.Group.{Group}
use Rattle.drawing.specs.Floats.{float, plain}
use Rattle.drawing.specs.Figures.{three_zeros}
use Rattle.drawing.specs.Claims.{plain_group}
use Rattle.drawing.proofs.Values.{plain_value, float_value}

pub both : {x y : Bool} → x ≡ true → y ≡ true → (x && y) ≡ true
both e f = rw (e, f)

each : (x y : Bool) → (x && y) ≡ true → (x ≡ true) × (y ≡ true)
each true y e = (refl, e)
each false y e = absurd (false≢true e)

-- The three floats of a group.
pub record Plain (g : Group) : Type 0 where
  pub low : plain g.low ≡ true
  pub middle : plain g.middle ≡ true
  pub high : plain g.high ≡ true

pub all_plain : (g : Group) → Plain g → plain_group g ≡ true
all_plain g p = both (both p.low p.middle) p.high

pub each_plain : (g : Group) → plain_group g ≡ true → Plain g
each_plain g e =
    let ends = each (plain g.low && plain g.middle) (plain g.high) e in
    let first = each (plain g.low) (plain g.middle) ends.0 in
    record { low = first.0; middle = first.1; high = ends.1 }

pub zero_plain : plain (float 0) ≡ true
zero_plain = plain_value (float 0) 0 1 (float_value 0 (omega arith))

pub zeros : Plain three_zeros
zeros = record { low = zero_plain; middle = zero_plain; high = zero_plain }

-- So its bits are defined.
pub no_nan : (x : Float) → plain x ≡ true → T (not (is_nan x))
unfolding is_nan
no_nan nan e = absurd (false≢true e)
no_nan (inf s) e = tt
no_nan (fin s m e) f = tt
