-- Figures of a list summed: by its first entry; over the burning pools in order they are the sums over the places. By induction over the list.
-- Assumes nothing.
use mathlib.Core.Path.{◌≡◌, refl, sym, ap, ◌∙◌}
use mathlib.Core.List.{List, [], ◌∷◌}
use Prim.Native.Nat.{ℕ, ◌+◌}
use native.Mathlib.Omega.{arith}
use lib.ListN.{length}
use Rattle.register.specs.declared.places.BurningPool.{BurningPool}
use Rattle.register.specs.Sums.{over_burning}
use Rattle.which.specs.WhichPools.{put_in, in_order}
use Rattle.history.specs.WhichClaims.{total_of}
use Rattle.register.proofs.ByNumber.{by_number, sum_none, sum_vacant, sum_burning}
use Rattle.which.proofs.InOrder.{by_put_in, in_order_none, in_order_vacant, in_order_burning}

module _ {A : Type 0} (figure : A → ℕ) where
  pub total_none : total_of figure [] ≡ 0
  unfolding total_of
  total_none = refl

  pub total_next : (n : A) (ns : List A) → total_of figure (n ∷ ns) ≡ figure n + total_of figure ns
  unfolding total_of
  total_next n ns = refl

module _ (figure : BurningPool → ℕ) where
  total_put_in : (p : BurningPool) (qs : List BurningPool) → total_of figure (put_in p qs) ≡ figure p + total_of figure qs
  total_put_in p =
      by_put_in p (λ qs rs. total_of figure rs ≡ figure p + total_of figure qs) (total_next figure p [])
      (λ q qs b rest. omega (arith, total_next figure q (put_in p qs), total_next figure q qs, rest))
      (λ q qs b. total_next figure p (q ∷ qs))

  pub total_in_order : (ps : List BurningPool) → total_of figure (in_order ps) ≡ over_burning figure ps
  total_in_order =
      by_number 0 (λ ps. total_of figure (in_order ps) ≡ over_burning figure ps)
      (ap (total_of figure) in_order_none ∙ total_none figure ∙ sym (sum_none figure))
      (λ p ps e rest. ap (total_of figure) (in_order_vacant p ps e) ∙ rest ∙ sym (sum_vacant figure p ps e))
      (λ p ps e rest.
      ap (total_of figure) (in_order_burning p ps e) ∙ total_put_in p (in_order ps) ∙ ap (◌+◌ (figure p)) rest ∙ sym (sum_burning figure p ps e))

-- As many as there are.
pub total_length : {A : Type 0} (ns : List A) → total_of (λ n. 1) ns ≡ length ns
total_length [] = total_none (λ n. 1)
total_length (n ∷ ns) = omega (arith, total_next (λ m. 1) n ns, total_length ns)
