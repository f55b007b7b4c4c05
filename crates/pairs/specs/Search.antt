-- The greatest and the least number that passes a test.
use Rattle.std.specs.Prelude.{ℕ, zero, suc, Bool, true, false}

-- The greatest number from 1 to n that passes, or 0 where none does.
unfoldable pub greatest : (ℕ → Bool) → ℕ → ℕ
greatest passes zero = zero
greatest passes (suc n) = elim (passes (suc n)) [ true ↦ suc n | false ↦ greatest passes n ]

-- The least number from 0 to n that passes, or n where none below it does.
unfoldable pub least : (ℕ → Bool) → ℕ → ℕ
least passes zero = zero
least passes (suc n) = elim (passes (least passes n)) [ true ↦ least passes n | false ↦ suc n ]
