-- Vocabulary of private functions' contracts. No public contract uses it.
use Rattle.std.specs.Prelude.{◌≡◌, true, false, ◌&&◌, List, [], ◌∷◌, ℕ, ◌+◌, ◌*◌, ◌≤◌, eqb, leb}
use Rattle.pairs.specs.declared.answer.Pair.{Pair}
use Rattle.pairs.specs.Rounded.{U, down, up}
use Rattle.pairs.specs.Figures.{Figures}
use Rattle.pairs.specs.Answers.{answers}
use Rattle.chain.specs.declared.enquiry.Enquiry.{Enquiry}
use Rattle.chain.specs.declared.enquiry.Printed.{Printed}
use Rattle.chain.specs.declared.pool.PoolFlame.{PoolFlame}
use Rattle.chain.specs.declared.kinds.Method.{Method}
use Rattle.chain.specs.declared.kinds.Method.TheVariants.{ByDiameter, ByHeat, Smoky}
use Rattle.chain.specs.declared.kinds.Face.{Face}
use Rattle.chain.specs.declared.kinds.Face.TheVariants.{Vertical, Horizontal, Tilted}
use Rattle.chain.specs.Chain as chain
use Rattle.chain.specs.Tests.{Test}
use Rattle.chain.specs.Flux.{limits}

-- The numbers of the methods and faces.
abbrev pub method_number : Method → ℕ
method_number ByDiameter = 1
method_number ByHeat = 2
method_number Smoky = 3

abbrev pub face_number : Face → ℕ
face_number Vertical = 1
face_number Horizontal = 2
face_number Tilted = 3

-- What holds of each test of a list; and that none applies.
abbrev pub EachTest : (Test → Type 0) → List Test → Type 0
EachTest P [] = Unit {0}
EachTest P (t ∷ ts) = P t × EachTest P ts

abbrev pub NoneApplies : List Test → Type 0
NoneApplies ts = EachTest (λ t. t.applies ≡ false) ts

-- No number from 11 to 15 applies, nor 18 or 19.
abbrev pub Limited : Enquiry → Type 0
Limited E = NoneApplies (limits E)

-- L and E of an enquiry, by its method.
pub record FlameOf (E : Enquiry) (f : PoolFlame) : Type 0 where
  pub height : f.height ≡ chain.flame_height_of answers E
  pub power : f.power ≡ chain.emissive_power_of answers E

-- Low, high and note of q by a method.
pub record Prints (q : Pair) (method : ℕ) (p : Printed) : Type 0 where
  pub low : p.low ≡ down (1000 * q.low) U
  pub high : p.high ≡ up (1000 * q.high) U
  pub note : p.note ≡ (elim (eqb method 1 && leb (down (1000 * q.low) U) 5000) [ true ↦ 1 | false ↦ 0 ])

-- A distance e of a target in radii, as wide as the diameter allows: with it no operation of step 7 refuses.
pub record Spaced (e : Figures) : Type 0 where
  pub given : e.number ≡ 0
  pub least : 40_000_000_000 ≤ e.pair.low
  pub ordered : e.pair.low ≤ e.pair.high
  pub most : e.pair.high ≤ 400_000_000_000_000
  pub near : e.pair.high ≤ e.pair.low + 60_000
