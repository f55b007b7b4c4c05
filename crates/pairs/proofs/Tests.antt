-- A test before a result of any kind: a pair operation's, a flux's, a sheet's. By its two outcomes. Assumes nothing.
use mathlib.Core.Path.{◌≡◌, refl}
use mathlib.Core.Bool.{Bool, true, false}
use Rattle.pairs.specs.Figures.{refuse}

-- Where something holds of the tested result, and not of the refusal where the test holds, the test failed, and it holds of what follows.
pub past_test :
    {X : Type 0} (P : X → Type 0) (b : Bool) {refusal rest : X} → (b ≡ true → P refusal → ⊥) → P (refuse b refusal rest)
    → (b ≡ false) × P rest
past_test P true other h = absurd (other refl h)
past_test P false other h = (refl, h)

-- What relates the refusal to itself relates two results after the same test, if it does where the test fails.
pub same_after_test :
    {X : Type 0} (S : X → X → Type 0) (b : Bool) {refusal x y : X} → S refusal refusal → (b ≡ false → S x y)
    → S (refuse b refusal x) (refuse b refusal y)
same_after_test S true r h = r
same_after_test S false r h = h refl
