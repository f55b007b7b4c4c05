-- Sums over a list of different pools: they are at most those over all numbers, and a sum of lows is at most as many times t as there are pools,
-- with what the lows have above t. By induction over the list. Assumes nothing.
use mathlib.Core.Path.{◌≡◌, refl, sym, ap, ◌∙◌}
use mathlib.Core.Bool.{true, false}
use mathlib.Core.Option.{Option, none}
use mathlib.Core.List.{List, [], ◌∷◌}
use Prim.Native.Nat.{ℕ, zero, suc, ◌+◌, ◌-◌, ◌*◌, ◌≤◌, ◌<◌}
use native.Mathlib.Nat.{suc-mul}
use native.Mathlib.Omega.{arith}
use lib.Dec.{eqb}
use lib.ListN.{length}
use borrow.Author.Tests.{eq-eqb, ne_eqb}
use Rattle.chain.specs.declared.enquiry.Enquiry.{Enquiry}
use Rattle.history.specs.History.{figure_of, over_numbers}
use Rattle.history.proofs.Total.{total_none, total_next}
use Rattle.history.proofs.Afresh.{one_other}
use Rattle.history.specs.WhichClaims.{total_of, nth}

-- The same figures have the same sum.
pub same_figures : (f g : ℕ → ℕ) (ns : List ℕ) → ((i : ℕ) → i < length ns → f (nth ns i) ≡ g (nth ns i)) → total_of f ns ≡ total_of g ns
same_figures f g [] same = total_none f ∙ sym (total_none g)
same_figures f g (n ∷ ns) same =
    let rest = same_figures f g ns (λ i l. same (suc i) (omega arith)) in
    omega (arith, total_next f n ns, total_next g n ns, same zero (omega arith), rest)

-- ---- at most the sum over all numbers
-- The pools without that of a number.
without : ℕ → (ℕ → Option Enquiry) → ℕ → Option Enquiry
without n pools m = elim (eqb n m) [ true ↦ none | false ↦ pools m ]

without_this : (n : ℕ) (pools : ℕ → Option Enquiry) → without n pools n ≡ none
unfolding without
without_this n pools = rw (eq-eqb n n refl, without)

without_other : (n : ℕ) (pools : ℕ → Option Enquiry) (m : ℕ) → (n ≡ m → ⊥) → without n pools m ≡ pools m
unfolding without
without_other n pools m e = rw (ne_eqb n m e, without)

-- A list of different numbers up to N.
pub record Numbers (N : ℕ) (ns : List ℕ) : Type 0 where
  pub least : (i : ℕ) → i < length ns → 1 ≤ nth ns i
  pub most : (i : ℕ) → i < length ns → nth ns i ≤ N
  pub once : (i j : ℕ) → i < length ns → j < length ns → nth ns i ≡ nth ns j → i ≡ j

later : (N n : ℕ) (ns : List ℕ) → Numbers N (n ∷ ns) → Numbers N ns
later N n ns d =
    record {
      least = λ i l. d.least (suc i) (omega arith);
      most = λ i l. d.most (suc i) (omega arith);
      once = λ i j l h e. omega (arith, d.once (suc i) (suc j) (omega arith) (omega arith) e);
    }

module _ (figure : Enquiry → ℕ) (N : ℕ) where
  pub sum_different :
      (pools : ℕ → Option Enquiry) (ns : List ℕ) → Numbers N ns → total_of (λ n. figure_of figure (pools n)) ns ≤ over_numbers figure pools N
  sum_different pools [] d = omega (arith, total_none (λ n. figure_of figure (pools n)))
  sum_different pools (n ∷ ns) d =
      let rest = sum_different (without n pools) ns (later N n ns d) in
      let same =
      same_figures (λ m. figure_of figure (pools m)) (λ m. figure_of figure (without n pools m)) ns
      (λ i l. ap (figure_of figure) (sym (without_other n pools (nth ns i) (λ e. omega (arith, d.once zero (suc i) (omega arith) (omega arith) e))))) in
      let all = one_other figure (without n pools) pools n (without_other n pools) N (d.least zero (omega arith)) (d.most zero (omega arith)) in
      omega (arith, total_next (λ m. figure_of figure (pools m)) n ns, same, rest, all, ap (figure_of figure) (without_this n pools))

-- ---- by what the figures have above t
pub sum_above : (figure : ℕ → ℕ) (t : ℕ) (ns : List ℕ) → total_of figure ns ≤ length ns * t + total_of (λ n. figure n - t) ns
sum_above figure t [] = omega (arith, total_none figure)
sum_above figure t (n ∷ ns) =
    omega (arith, total_next figure n ns, total_next (λ m. figure m - t) n ns, suc-mul (length ns) t, sum_above figure t ns)
