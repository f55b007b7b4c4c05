-- `printed` meets its contract: 1000 over U is one over 10^9.
-- Assumes nothing.
use mathlib.Core.Path.{◌≡◌, refl, ap, ◌∙◌}
use mathlib.Core.Bool.{true, false, ◌&&◌}
use mathlib.Core.Logic.{◌⊎◌, inl, inr}
use Prim.Native.Nat.{ℕ, ◌+◌, ◌*◌, ◌/◌, ◌%◌, min}
use native.Mathlib.Omega.{arith}
use lib.Dec.{leb, eqb}
use Rattle.pairs.specs.declared.answer.Pair.{Pair}
use Rattle.pairs.specs.Rounded.{U, down, up}
use Rattle.chain.specs.declared.kinds.Method.{Method}
use Rattle.chain.specs.declared.kinds.Method.TheVariants.{ByHeat, Smoky}
use Rattle.chain.specs.Private.{method_number, Prints}
use Rattle.chain.proofs.flux.printed.Goals as goal

low_is : (q : ℕ) → q / 1_000_000_000 ≡ down (1000 * q) U
unfolding down
low_is q = omega arith

high_is : (q : ℕ) → q / 1_000_000_000 + min 1 (q % 1_000_000_000) ≡ up (1000 * q) U
unfolding up
high_is q = omega arith

abbrev noted : Method → ℕ → ℕ
noted m low = elim (eqb (method_number m) 1 && leb low 5000) [ true ↦ 1 | false ↦ 0 ]

prints :
    (q : Pair) (m : Method) (h n : ℕ) → h ≡ q.high / 1_000_000_000 + min 1 (q.high % 1_000_000_000) → n ≡ noted m (q.low / 1_000_000_000)
    → Prints q (method_number m) (record { low = q.low / 1_000_000_000; high = h; note = n })
prints q m h n e f = record { low = low_is q.low; high = e ∙ high_is q.high; note = f ∙ ap (noted m) (low_is q.low) }

pub returns-in-ByDiameter : goal.returns-in-ByDiameter
returns-in-ByDiameter c = prints c.args.q c.args.method _ _ c.div_ceil-high.ensures (rw c.in-ByDiameter.is refl)

-- the other methods have no note
none_noted : (m : Method) (low : ℕ) → (m ≡ ByHeat) ⊎ (m ≡ Smoky) → 0 ≡ noted m low
none_noted m low (inl e) = rw e refl
none_noted m low (inr e) = rw e refl

pub returns-in-ByHeat : goal.returns-in-ByHeat
returns-in-ByHeat c = prints c.args.q c.args.method _ _ c.div_ceil-high.ensures (none_noted _ _ c.in-ByHeat.is)
