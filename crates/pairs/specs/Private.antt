-- Vocabulary of private functions' contracts. No public contract uses it.
use Rattle.std.specs.Prelude.{ℕ, zero, suc, ◌+◌, ◌*◌, ◌≤◌, ◌<◌}
use Rattle.pairs.specs.declared.answer.Pair.{Pair}
use Rattle.pairs.specs.declared.product.Rounding.{Rounding}
use Rattle.pairs.specs.declared.product.Rounding.TheVariants.{Down, Up}
use Rattle.pairs.specs.Rounded.{U, down, up, product, over}

-- What the code adds before each of two divisions by 10^6: 999,999·1,000,001 is U - 1.
abbrev pub extra_of : Rounding → ℕ
extra_of Down = 0
extra_of Up = 999_999

-- n over U, rounded down or up.
abbrev pub carried : Rounding → ℕ → ℕ
carried Down n = down n U
carried Up n = up n U

-- s·s·s·s from left to right, each product carried alike.
unfoldable pub fourth_power : Rounding → ℕ → ℕ
fourth_power r s = carried r (carried r (carried r (s * s) * s) * s)

-- p·q·q.., k times by q.
unfoldable pub power_from : Pair → Pair → ℕ → Pair
power_from p q zero = p
power_from p q (suc k) = product (power_from p q k) q

-- Term n + k of exp's series in z, from term n on.
unfoldable pub exp_from : Pair → Pair → ℕ → ℕ → Pair
exp_from term z n zero = term
exp_from term z n (suc k) = over (product (exp_from term z n k) z) (n + k + 1)

-- A bracket of the first number whose fifth power, before its last division by U, is above t.
pub record Brackets (r : Rounding) (t lower upper : ℕ) : Type 0 where
  pub ordered : lower < upper
  pub limit : upper ≤ 28_391_212_775_636
  pub within : fourth_power r lower * lower ≤ t
  pub beyond : t < fourth_power r upper * upper
