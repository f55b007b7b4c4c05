-- The arc as it is run: one power after another, each used once. The definition names each power anew.
-- By induction over the pairs of terms, in any arithmetic. Assumes nothing.
use mathlib.Core.Path.{◌≡◌, sym, ap, subst, ◌∙◌}
use Prim.Native.Nat.{ℕ, zero, suc, ◌+◌, ◌*◌}
use native.Mathlib.Nat.{zero-add, add-zero, add-suc, suc-add}
use native.Mathlib.Numerals.{add-one}
use native.Mathlib.Omega.{arith}
use Rattle.pairs.specs.Arithmetic.{Arithmetic}
use Rattle.pairs.specs.Series.{none, plus_terms, minus_terms, alternating, power, arc_term, arc, half_angle, atan}
use Rattle.pairs.proofs.Kept.{Kept, atan_kept}

module _ (A : Arithmetic) where
  -- n pairs of terms more, from term k with its power p on; q is t·t, plus and minus what is summed so far.
  unfoldable pub arc_from : A.Carrier → ℕ → ℕ → A.Carrier → A.Carrier → A.Carrier → A.Carrier
  arc_from q zero k p plus minus = A.difference (A.sum plus (A.high_only (A.over p (2 * k + 1)))) minus
  arc_from q (suc n) k p plus minus =
      let p₁ = A.product p q in
      arc_from q n (suc (suc k)) (A.product p₁ q) (A.sum plus (A.over p (2 * k + 1))) (A.sum minus (A.over p₁ (2 * suc k + 1)))

  unfoldable pub arc_run : A.Carrier → A.Carrier
  arc_run t = let s = A.at_most_one t in arc_from (A.product s s) A.pairs_of_terms 0 s (none A) (none A)

  unfoldable pub atan_run : A.Carrier → A.Carrier
  atan_run t = A.times (arc_run (half_angle A (half_angle A t))) 4

  module _ (t : A.Carrier) where
    -- What the definition gives for n pairs of terms.
    abbrev reached : ℕ → A.Carrier
    reached n =
        A.difference (A.sum (plus_terms A (arc_term A t) n) (A.high_only (arc_term A t (2 * n)))) (minus_terms A (arc_term A t) n)

    minus_next : (i : ℕ) → minus_terms A (arc_term A t) (suc i) ≡ A.sum (minus_terms A (arc_term A t) i) (A.over (A.product (power A t (2 * i)) (A.product t t)) (2 * suc (2 * i) + 1))
    unfolding minus_terms arc_term power
    minus_next i = ap (λ (j : ℕ). A.sum (minus_terms A (arc_term A t) i) (arc_term A t j)) (add-one (2 * i))

    next : (n i : ℕ) → arc_from (A.product t t) (suc n) (2 * i) (power A t (2 * i)) (plus_terms A (arc_term A t) i) (minus_terms A (arc_term A t) i) ≡ arc_from (A.product t t) n (2 * suc i) (power A t (2 * suc i)) (plus_terms A (arc_term A t) (suc i)) (minus_terms A (arc_term A t) (suc i))
    unfolding arc_from arc_term power plus_terms
    next n i =
        let two : 2 * suc i ≡ suc (suc (2 * i)) = omega arith in
        rw (two, minus_next i)

    from_pair : (n i : ℕ) → arc_from (A.product t t) n (2 * i) (power A t (2 * i)) (plus_terms A (arc_term A t) i) (minus_terms A (arc_term A t) i) ≡ reached (n + i)
    unfolding arc_from arc_term
    from_pair zero i = rw zero-add
    from_pair (suc n) i = next n i ∙ from_pair n (suc i) ∙ ap reached (add-suc n i ∙ sym (suc-add n i))

  pub arc_running : (t : A.Carrier) → arc A t ≡ arc_run t
  unfolding arc arc_run alternating power plus_terms minus_terms
  arc_running t =
      let s = A.at_most_one t in
      let n = A.pairs_of_terms in
      sym (from_pair s n 0 ∙ ap (reached s) (add-zero n))

  pub atan_running : (t : A.Carrier) → atan A t ≡ atan_run t
  unfolding atan atan_run
  atan_running t = ap (λ (a : A.Carrier). A.times a 4) (arc_running (half_angle A (half_angle A t)))

-- What atan keeps, its run keeps.
pub atan_run_kept : {A B : Arithmetic} {R : A.Carrier → B.Carrier → Type 0} (K : Kept A B R) {t : A.Carrier} {b : B.Carrier} → R t b → R (atan A t) (atan_run B b)
atan_run_kept {A} {B} {R} K {t} {b} h = subst (R (atan A t)) (atan_running B b) (atan_kept K h)
