-- Decimal digits: the count that bounds the recursion does not matter, the last digit comes off, and how many there are.
-- By induction over the count. Assumes nothing.
use mathlib.Core.Path.{◌≡◌, refl, sym, ap, ◌∙◌}
use mathlib.Core.Bool.{Bool, true, false}
use mathlib.Core.Logic.{⊎_elim}
use mathlib.Core.List.{List, [], ◌∷◌, ◌++◌}
use Prim.Native.Nat.{ℕ, zero, suc, ◌+◌, ◌/◌, ◌%◌, ◌^◌, ◌≤◌, ◌<◌}
use native.Mathlib.Omega.{arith}
use lib.ListN.{length, length-append}
use lib.Dec.{ltb}
use borrow.Author.Tests.{lt-ltb, le-ltb, ltb-false}
use Rattle.std.specs.Fmt as std
use Rattle.std.proofs.lemmas.Bool.{cases_lt}
use Rattle.std.proofs.lemmas.Fmt.{decimal_by_steps}
use Rattle.sheet.specs.Report.{digits, decimal, field}

-- What `digits` chooses between.
abbrev pick : Bool → List ℕ → List ℕ → List ℕ
pick b x y = elim b [ true ↦ x | false ↦ y ]

same_choice : (b : Bool) (x y z : List ℕ) → (b ≡ false → y ≡ z) → pick b x y ≡ pick b x z
same_choice true x y z h = refl
same_choice false x y z h = h refl

-- Any count above the number serves.
enough : (k l n : ℕ) → n < k → n < l → digits k n ≡ digits l n
unfolding digits
enough zero l n h g = absurd (omega arith)
enough (suc k) zero n h g = absurd (omega arith)
enough (suc k) (suc l) n h g =
    same_choice (ltb n 10) _ _ _
    (λ e. let large : 10 ≤ n = ltb-false n 10 e in
    ap (λ (x : List ℕ). x ++ ((48 + n % 10) ∷ [])) (enough k l (n / 10) (omega arith) (omega arith)))

pub one_digit : (n : ℕ) → n < 10 → decimal n ≡ (48 + n) ∷ []
unfolding decimal digits
one_digit n h = ap (λ (b : Bool). pick b ((48 + n) ∷ []) (digits n (n / 10) ++ ((48 + n % 10) ∷ []))) (lt-ltb n 10 h)

pub last_digit : (n : ℕ) → 10 ≤ n → decimal n ≡ decimal (n / 10) ++ ((48 + n % 10) ∷ [])
unfolding decimal digits
last_digit n h =
    ap (λ (b : Bool). pick b ((48 + n) ∷ []) (digits n (n / 10) ++ ((48 + n % 10) ∷ []))) (le-ltb n 10 h)
    ∙ ap (λ (x : List ℕ). x ++ ((48 + n % 10) ∷ [])) (enough n (suc (n / 10)) (n / 10) (omega arith) (omega arith))

pub digits_more : (n : ℕ) → 10 ≤ n → length (decimal n) ≡ length (decimal (n / 10)) + 1
digits_more n h = ap length (last_digit n h) ∙ length-append (decimal (n / 10)) ((48 + n % 10) ∷ [])

pub field_length : (n end : ℕ) → length (field n end) ≡ length (decimal n) + 1
unfolding field
field_length n end = length-append (decimal n) (end ∷ [])

-- The library's text of a number.
pub decimal_is : (n : ℕ) → n < 2 ^ 64 → std.decimal n ≡ decimal n
decimal_is =
    decimal_by_steps (λ n ds. ds ≡ decimal n) (λ n h. sym (one_digit n h)) (λ n ds h e. ap (λ (x : List ℕ). x ++ ((48 + n % 10) ∷ [])) e ∙ sym (last_digit n h))

-- How many digits there are.
pub few_digits : (m n : ℕ) → n < 10 ^ suc m → length (decimal n) ≤ suc m
few_digits zero n h = omega (arith, ap length (one_digit n (omega arith)))
few_digits (suc m) n h =
    ⊎_elim (λ one. omega (arith, ap length (one_digit n one))) (λ more. omega (arith, digits_more n more, few_digits m (n / 10) (omega arith))) (cases_lt n 10)
