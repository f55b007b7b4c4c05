-- `power_61_hundredths` meets its contract: the roots, one by one, and 60 products.
-- Assumes nothing.
use mathlib.Core.Path.{◌≡◌, refl, ap₂, ◌∙◌}
use Prim.Native.Nat.{ℕ, ◌+◌}
use native.Mathlib.Numerals.{add-one}
use Rattle.pairs.specs.Figures.{Figures}
use Rattle.pairs.specs.Answers as A
use Rattle.chain.specs.Chain as chain
use Rattle.chain.proofs.smoky.power_61_hundredths.Goals as goal

-- one factor more
again : (k : ℕ) (b p q : Figures) → q ≡ A.product p b → p ≡ chain.equal_factors A.answers b k → q ≡ chain.equal_factors A.answers b (k + 1)
unfolding chain.equal_factors
again k b p q e s = rw (add-one k) (e ∙ ap₂ A.product s refl)

pub loop-init : goal.loop-init
unfolding chain.equal_factors
loop-init c = refl

pub loop-preserved : goal.loop-preserved
loop-preserved c = again _ _ _ _ c.mul-p.ensures c.loop.invariant
