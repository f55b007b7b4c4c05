-- Sums over the numbers 1 to n, and that those over sound places are such sums: each pool counts once, by its number. One number makes at
-- most one more burn. By induction over the numbers, and over the places. Assumes nothing.
use mathlib.Core.Path.{◌≡◌, refl, sym, ap, ◌∙◌}
use mathlib.Core.Option.{Option, none, some}
use mathlib.Core.List.{List, [], ◌∷◌}
use Prim.Native.Nat.{ℕ, zero, suc, ◌+◌, ◌≤◌}
use native.Mathlib.Nat.{le_refl}
use native.Mathlib.Omega.{arith}
use native.Mathlib.Decide.{ℕ_discrete, dec_le}
use Rattle.chain.specs.declared.enquiry.Enquiry.{Enquiry}
use Rattle.register.specs.declared.places.BurningPool.{BurningPool}
use Rattle.register.specs.Sums.{over_burning}
use Rattle.history.specs.Claims.{AsLit}
use Rattle.history.specs.History.{figure_of, over_numbers}
use Rattle.register.proofs.ByNumber.{sum_none, sum_vacant, sum_burning, by_number}
use Rattle.history.proofs.Lookup.{lookup, lookup_none, lookup_here, lookup_later, no_lookup, Sound}

module _ (figure : Enquiry → ℕ) where
  sum_next : (pools : ℕ → Option Enquiry) (n : ℕ) → over_numbers figure pools (suc n) ≡ figure_of figure (pools (suc n)) + over_numbers figure pools n
  unfolding over_numbers
  sum_next pools n = refl

  sum_zero : (pools : ℕ → Option Enquiry) → over_numbers figure pools 0 ≡ 0
  unfolding over_numbers
  sum_zero pools = refl

  pub same_sum :
      (a b : ℕ → Option Enquiry) (n : ℕ) → ((m : ℕ) → 1 ≤ m → m ≤ n → a m ≡ b m) → over_numbers figure a n ≡ over_numbers figure b n
  same_sum a b zero same = sum_zero a ∙ sym (sum_zero b)
  same_sum a b (suc n) same =
      let rest = same_sum a b n (λ m l h. same m l (omega arith)) in
      let last = ap (figure_of figure) (same (suc n) (omega arith) (le_refl _)) in
      omega (arith, sum_next a n, sum_next b n, rest, last)

  -- Where only the pool of one number may differ, the sums differ by its figures.
  pub one_other :
      (a b : ℕ → Option Enquiry) (m : ℕ) → ((k : ℕ) → (m ≡ k → ⊥) → a k ≡ b k)
      → (n : ℕ) → 1 ≤ m → m ≤ n → over_numbers figure b n + figure_of figure (a m) ≡ over_numbers figure a n + figure_of figure (b m)
  one_other a b m other zero l h = absurd (omega arith)
  one_other a b m other (suc n) l h =
      elim (ℕ_discrete m (suc n)) [
        | yes k ↦
            let before = ap (λ j. figure_of figure (a j)) k in
            let now = ap (λ j. figure_of figure (b j)) k in
            let rest = same_sum a b n (λ j p q. other j (λ e. omega (arith, e, k, q))) in
            omega (arith, sum_next a n, sum_next b n, before, now, rest)
        | no k ↦
            let here = ap (figure_of figure) (other (suc n) k) in
            let rest = one_other a b m other n l (omega (arith, k)) in
            omega (arith, sum_next a n, sum_next b n, here, rest)
      ]

  -- One pool more.
  pub one_more :
      (a b : ℕ → Option Enquiry) (m : ℕ) (E : Enquiry) → a m ≡ none → b m ≡ some E → ((k : ℕ) → (m ≡ k → ⊥) → a k ≡ b k)
      → (n : ℕ) → 1 ≤ m → m ≤ n → over_numbers figure b n ≡ figure E + over_numbers figure a n
  one_more a b m E was is other n l h =
      omega (arith, one_other a b m other n l h, ap (figure_of figure) was, ap (figure_of figure) is)

  pub no_pools_sum : (pools : ℕ → Option Enquiry) → ((m : ℕ) → pools m ≡ none) → (n : ℕ) → over_numbers figure pools n ≡ 0
  no_pools_sum pools out zero = sum_zero pools
  no_pools_sum pools out (suc n) = omega (arith, sum_next pools n, ap (figure_of figure) (out (suc n)), no_pools_sum pools out n)

  -- The sum over sound places, by the numbers of their pools.
  module _ (of_pool : BurningPool → ℕ) (same : (p : BurningPool) → AsLit p → of_pool p ≡ figure p.enquiry) where
    pub sum_by_number : (ps : List BurningPool) → Sound ps → over_burning of_pool ps ≡ over_numbers figure (λ n. lookup n ps) 255
    sum_by_number =
        by_number 0 (λ ps. Sound ps → over_burning of_pool ps ≡ over_numbers figure (λ n. lookup n ps) 255)
        (λ s. sum_none of_pool ∙ sym (no_pools_sum (λ n. lookup n []) lookup_none 255))
        (λ p ps e rest s.
        sum_vacant of_pool p ps e ∙ rest s.1
        ∙ same_sum (λ n. lookup n ps) (λ n. lookup n (p ∷ ps)) 255 (λ m l h. sym (lookup_later m p ps (λ k. omega (arith, k, e, l)))))
        (λ p ps e rest s.
        let b = s.0 e in
        let more =
        one_more (λ n. lookup n ps) (λ n. lookup n (p ∷ ps)) p.number p.enquiry (no_lookup p.number ps b.new) (lookup_here p.number p ps refl)
        (λ k other. sym (lookup_later k p ps other)) 255 (omega (arith, e)) b.lit.most
        in
        omega (arith, sum_burning of_pool p ps e, rest s.1, same p b.lit, more))

-- A pool counts 1, or 0 where it is out.
one_each : (o : Option Enquiry) → figure_of (λ E. 1) o ≤ 1
one_each none = omega arith
one_each (some E) = omega arith

-- At most one more burns where only the pool of one number may differ.
pub at_most_one_more :
    (a b : ℕ → Option Enquiry) (m : ℕ) → ((k : ℕ) → (m ≡ k → ⊥) → a k ≡ b k)
    → (n : ℕ) → over_numbers (λ E. 1) b n ≤ suc (over_numbers (λ E. 1) a n)
at_most_one_more a b m other n =
    elim (dec_le 1 m) [
      | yes l ↦ elim (dec_le m n) [ yes h ↦ among l h | no h ↦ same (λ j p q e. h (omega (arith, e, q))) ]
      | no l ↦ same (λ j p q e. l (omega (arith, e, p)))
    ]
  where
    among : 1 ≤ m → m ≤ n → over_numbers (λ E. 1) b n ≤ suc (over_numbers (λ E. 1) a n)
    among l h = omega (arith, one_other (λ E. 1) a b m other n l h, one_each (b m))

    same : ((j : ℕ) → 1 ≤ j → j ≤ n → m ≡ j → ⊥) → over_numbers (λ E. 1) b n ≤ suc (over_numbers (λ E. 1) a n)
    same apart = omega (arith, same_sum (λ E. 1) a b n (λ j l h. other j (apart j l h)))
