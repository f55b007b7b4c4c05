-- The burning pools of sound places in order: each leads all after it; and what holds of every burning pool holds of each of them, and the
-- other way round. By induction over the places. Assumes nothing.
use mathlib.Core.Path.{◌≡◌, refl, sym, subst, ◌∙◌}
use mathlib.Core.Bool.{Bool, true, false, ◌||◌}
use mathlib.Core.List.{List, [], ◌∷◌}
use Prim.Native.Nat.{ℕ, zero, suc, ◌≤◌, ◌<◌}
use native.Mathlib.Decide.{ℕ_discrete}
use native.Mathlib.Omega.{arith}
use lib.ListN.{length}
use borrow.Author.Tests.{ltb-true, ltb-false, le-ltb, eq-eqb, ne_eqb}
use lib.Dec.{ltb}
use Rattle.register.specs.declared.places.BurningPool.{BurningPool}
use Rattle.register.specs.Places.{has}
use Rattle.register.proofs.ByNumber.{pool_at, by_number, not_here, not_later}
use Rattle.history.proofs.Lookup.{Sound}
use Rattle.which.specs.WhichPools.{goes_before, put_in, in_order}
use Rattle.which.proofs.InOrder.{by_put_in, in_order_none, in_order_vacant, in_order_burning}

-- ---- what holds of each pool
abbrev pub Each : (BurningPool → Type 0) → List BurningPool → Type 0
Each P [] = Unit
Each P (p ∷ ps) = P p × Each P ps

module _ (P : BurningPool → Type 0) where
  pub each_at : (ps : List BurningPool) → Each P ps → (i : ℕ) → i < length ps → P (pool_at ps i)
  each_at [] e i l = absurd (omega arith)
  each_at (p ∷ ps) e zero l = e.0
  each_at (p ∷ ps) e (suc i) l = each_at ps e.1 i (omega arith)

  pub each_by_place : (ps : List BurningPool) → ((i : ℕ) → i < length ps → P (pool_at ps i)) → Each P ps
  each_by_place [] f = tt
  each_by_place (p ∷ ps) f = (f zero (omega arith), each_by_place ps (λ i l. f (suc i) (omega arith)))

  each_put_in : (p : BurningPool) → P p → (qs : List BurningPool) → Each P qs → Each P (put_in p qs)
  each_put_in p h =
      by_put_in p (λ qs rs. Each P qs → Each P rs) (λ e. (h, tt)) (λ q qs b rest e. (e.0, rest e.1)) (λ q qs b e. (h, e))

  among_put_in : (p : BurningPool) (qs : List BurningPool) → Each P (put_in p qs) → P p × Each P qs
  among_put_in p =
      by_put_in p (λ qs rs. Each P rs → P p × Each P qs) (λ e. (e.0, tt)) (λ q qs b rest e. ((rest e.1).0, (e.0, (rest e.1).1)))
      (λ q qs b e. (e.0, e.1))

  -- Of the burning pools at all places, and of those in order.
  pub each_in_order : (ps : List BurningPool) → Each (λ p. (p.number ≡ 0 → ⊥) → P p) ps → Each P (in_order ps)
  each_in_order =
      by_number 0 (λ ps. Each (λ p. (p.number ≡ 0 → ⊥) → P p) ps → Each P (in_order ps)) (λ e. subst (Each P) (sym in_order_none) tt)
      (λ p ps e rest h. subst (Each P) (sym (in_order_vacant p ps e)) (rest h.1))
      (λ p ps e rest h. subst (Each P) (sym (in_order_burning p ps e)) (each_put_in p (h.0 e) (in_order ps) (rest h.1)))

  pub each_burning : (ps : List BurningPool) → Each P (in_order ps) → Each (λ p. (p.number ≡ 0 → ⊥) → P p) ps
  each_burning =
      by_number 0 (λ ps. Each P (in_order ps) → Each (λ p. (p.number ≡ 0 → ⊥) → P p) ps) (λ h. tt)
      (λ p ps e rest h. (λ k. absurd (k e), rest (subst (Each P) (in_order_vacant p ps e) h)))
      (λ p ps e rest h.
      let both = among_put_in p (in_order ps) (subst (Each P) (in_order_burning p ps e) h) in
      (λ k. both.0, rest both.1))

pub each_map : (P Q : BurningPool → Type 0) → ((p : BurningPool) → P p → Q p) → (ps : List BurningPool) → Each P ps → Each Q ps
each_map P Q f [] e = tt
each_map P Q f (p ∷ ps) e = (f p e.0, each_map P Q f ps e.1)

-- ---- each leads all after it
-- A pool of another number.
abbrev Other : BurningPool → BurningPool → Type 0
Other p q = p.number ≡ q.number → ⊥

-- A pool goes in before another.
pub record Leads (p q : BurningPool) : Type 0 where
  pub low : q.low ≤ p.low
  pub number : p.low ≡ q.low → p.number < q.number

leads_after : (p q r : BurningPool) → Leads p q → Leads q r → Leads p r
leads_after p q r f g =
    record {
      low = omega (arith, f.low, g.low);
      number = λ e. omega (arith, f.number (omega (arith, e, f.low, g.low)), g.number (omega (arith, e, f.low, g.low)));
    }

abbrev pub Ranked : List BurningPool → Type 0
Ranked [] = Unit
Ranked (p ∷ ps) = Each (Leads p) ps × Ranked ps

-- Which of two goes before.
module _ (p q : BurningPool) where
  by_numbers : p.low ≡ q.low → goes_before p q ≡ ltb p.number q.number
  by_numbers e = rw (le-ltb q.low p.low (omega arith), eq-eqb _ _ e)

  by_lows : (p.low ≡ q.low → ⊥) → goes_before p q ≡ ltb q.low p.low
  by_lows e = rw (ne_eqb _ _ e) (by_test (ltb q.low p.low))
    where
      by_test : (b : Bool) → (b || false) ≡ b
      by_test true = refl
      by_test false = refl

module _ (p q : BurningPool) where
  goes_leads : goes_before q p ≡ true → Leads q p
  goes_leads b =
      elim (ℕ_discrete q.low p.low) [
        | yes e ↦
            let less = ltb-true q.number p.number (sym (by_numbers q p e) ∙ b) in
            record { low = omega arith; number = λ k. less }
        | no e ↦
            let less = ltb-true p.low q.low (sym (by_lows q p e) ∙ b) in
            record { low = omega (arith, less); number = λ k. absurd (e k) }
      ]

  stays_leads : Other p q → goes_before q p ≡ false → Leads p q
  stays_leads other b =
      elim (ℕ_discrete q.low p.low) [
        | yes e ↦
            let less = ltb-false q.number p.number (sym (by_numbers q p e) ∙ b) in
            record { low = omega arith; number = λ k. omega (arith, less, other) }
        | no e ↦
            let less = ltb-false p.low q.low (sym (by_lows q p e) ∙ b) in
            record { low = less; number = λ k. absurd (e (sym k)) }
      ]

ranked_put_in : (p : BurningPool) (qs : List BurningPool) → Each (Other p) qs → Ranked qs → Ranked (put_in p qs)
ranked_put_in p =
    by_put_in p (λ qs rs. Each (Other p) qs → Ranked qs → Ranked rs) (λ a r. (tt, tt))
    (λ q qs b rest a r. (each_put_in (Leads q) p (goes_leads p q b) qs r.0, rest a.1 r.1))
    (λ q qs b a r.
    let first = stays_leads p q a.0 b in
    ((first, each_map (Leads q) (Leads p) (λ s h. leads_after p q s first h) qs r.0), r))

all_other : (p : BurningPool) (ps : List BurningPool) → has p.number ps ≡ false → Each (Other p) ps
all_other p [] h = tt
all_other p (q ∷ qs) h = (λ e. not_here p.number q qs h (sym e), all_other p qs (not_later p.number q qs h))

pub ranked : (ps : List BurningPool) → Sound ps → Ranked (in_order ps)
ranked =
    by_number 0 (λ ps. Sound ps → Ranked (in_order ps)) (λ s. subst Ranked (sym in_order_none) tt)
    (λ p ps e rest s. subst Ranked (sym (in_order_vacant p ps e)) (rest s.1))
    (λ p ps e rest s.
    let others = each_in_order (Other p) ps (each_map (Other p) (λ q. (q.number ≡ 0 → ⊥) → Other p q) (λ q h k. h) ps (all_other p ps (s.0 e).new)) in
    subst Ranked (sym (in_order_burning p ps e)) (ranked_put_in p (in_order ps) others (rest s.1)))

pub ranked_at : (ps : List BurningPool) → Ranked ps → (i j : ℕ) → i < j → j < length ps → Leads (pool_at ps i) (pool_at ps j)
ranked_at [] r i j l h = absurd (omega arith)
ranked_at (p ∷ ps) r i zero l h = absurd (omega arith)
ranked_at (p ∷ ps) r zero (suc j) l h = each_at (Leads p) ps r.0 j (omega arith)
ranked_at (p ∷ ps) r (suc i) (suc j) l h = ranked_at ps r.1 i j (omega arith) (omega arith)
