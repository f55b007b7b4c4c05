-- The factor alone: nothing refuses inside the limits of 21 and 22, on any face, so the answer is the rounded factor.
-- From the sweep over y and e, with exact pairs, and by the law of a target level with the base. Assumes nothing.
use mathlib.Core.Path.{◌≡◌, refl, ap, ◌∙◌}
use mathlib.Core.Bool.{true}
use Prim.Native.Nat.{ℕ, ◌*◌, ◌≤◌, zero-le}
use native.Mathlib.Nat.{le_refl}
use native.Mathlib.Omega.{arith}
use Rattle.pairs.specs.Rounded.{U, ends, rounded}
use Rattle.pairs.specs.Figures.{given}
use Rattle.pairs.specs.Answers.{answers}
use Rattle.pairs.proofs.Agreement.{Agrees, itself, agreed, agreement}
use Rattle.chain.specs.Chain.{factor, factor_at}
use Rattle.chain.specs.Private.{Spaced}
use Rattle.chain.proofs.Bounds as B
use Rattle.chain.proofs.Bounds.{Bound, bound}
use Rattle.chain.proofs.Within.{Held, within}
use Rattle.chain.proofs.Steps.{factor_at_kept}
use Rattle.chain.proofs.Boxes.{known, passing, passed}
use Rattle.chain.proofs.Configuration.{seen_bound, above_held}
use Rattle.chain.proofs.Level.{nothing, factor_level}

exactly : (n : ℕ) (b : Bound) → b.least ≤ n → n ≤ b.most → Held (given (ends n n)) b
exactly n b l u = record { given = refl; inside = record { low = l; ordered = le_refl n; high = u; near = omega arith } }

point : (n : ℕ) → Agrees (given (ends n n)) (ends n n)
point n = itself (given (ends n n)) (λ _. record { ends = le_refl n })

pub exactly_spaced : (e : ℕ) → 40_000_000_000 ≤ e → e ≤ 400_000_000_000_000 → Spaced (given (ends e e))
exactly_spaced e l u = record { given = refl; least = l; ordered = le_refl e; most = u; near = omega arith }

-- l from 0 to 40.
abbrev height_bound : Bound
height_bound = record { least = 0; most = 40 * U; width = 0; safe = true }

abbrev level_bound : Bound
level_bound = record { least = 0; most = 0; width = 0; safe = true }

given_factor : (face l e : ℕ) → Held (given (ends l l)) height_bound → Held (given nothing) level_bound → Spaced (given (ends e e)) → (factor_at answers true face (given (ends l l)) (given nothing) (given (ends e e))).number ≡ 0
unfolding passing B.difference bound
given_factor face l e h k s =
    (above_held (given (ends l l)) s (passed seen_bound tt (known k)) (passed seen_bound tt (within.difference (known h) (known k)))
    (passed seen_bound tt (within.difference (known k) (known h))) face).given

pub factor_not_refused : (face l e : ℕ) → l ≤ 40_000_000_000_000 → 40_000_000_000 ≤ e → e ≤ 400_000_000_000_000 → factor_at answers true face (given (ends l l)) (given (ends 0 0)) (given (ends e e)) ≡ given (factor rounded face (ends l l) (ends e e))
factor_not_refused face l e l₁ e₀ e₁ =
    agreed (factor_at_kept agreement true face (point l) (point 0) (point e))
    (given_factor face l e (exactly l height_bound zero-le l₁) (exactly 0 level_bound (le_refl 0) (le_refl 0)) (exactly_spaced e e₀ e₁))
    ∙ ap given (factor_level face (ends l l) (ends e e))
