-- Request 10: "the register shows the sum of lows and the sum of highs", and how many pools burn.
use Rattle.std.specs.Prelude.{ℕ, ◌+◌, true, false, List, [], ◌∷◌, eqb}
use Rattle.register.specs.declared.places.BurningPool.{BurningPool}
use Rattle.register.specs.declared.places.Register.{Register}
use Rattle.register.specs.declared.sums.Totals.{Totals}

-- A figure of each burning pool, summed; a place of number 0 is vacant.
unfoldable pub over_burning : (BurningPool → ℕ) → List BurningPool → ℕ
over_burning figure [] = 0
over_burning figure (p ∷ ps) =
    elim (eqb p.number 0) [ true ↦ over_burning figure ps | false ↦ figure p + over_burning figure ps ]

abbrev pub how_many : Register → ℕ
how_many R = over_burning (λ p. 1) R.places

abbrev pub sums_of : Register → Totals
sums_of R =
    record { burning = how_many R; lows = over_burning (λ p. p.low) R.places; highs = over_burning (λ p. p.high) R.places }
