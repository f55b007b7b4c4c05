-- Two ranked lists of the same pools are the same, head by head. So after two lists of calls after which the same pools burn the pools in order
-- are the same, at whatever places they stand. Assumes nothing.
use mathlib.Core.Path.{◌≡◌, refl, sym, ap, ◌∙◌}
use mathlib.Core.Logic.{◌⊎◌, inl, inr, ⊎_elim}
use mathlib.Core.List.{List, [], ◌∷◌}
use Prim.Native.Nat.{ℕ, zero, suc, ◌+◌, ◌<◌}
use native.Mathlib.Omega.{arith}
use native.Mathlib.Decide.{dec_le}
use native.Mathlib.Nat.{lt_of_not-le}
use lib.ListN.{length}
use Rattle.chain.specs.declared.enquiry.Enquiry.{Enquiry}
use Rattle.chain.specs.Flux.{flux_of}
use Rattle.register.specs.declared.places.BurningPool.{BurningPool}
use Rattle.register.proofs.ByNumber.{pool_at}
use Rattle.which.specs.WhichPools.{in_order, until_over}
use Rattle.which.proofs.UntilOver.{until_next, until_reached}
use Rattle.history.specs.History.{Call, after, is_lit, figure_of}
use Rattle.history.specs.Claims.{Burns}
use Rattle.history.specs.OrderClaims.{set_after}
use Rattle.history.specs.WhichClaims.{low_after}
use Rattle.history.proofs.Claims.{claims}
use Rattle.history.proofs.Follows.{follows}
use Rattle.history.proofs.Ranked.{Each, each_at, each_by_place, each_burning, each_map, Leads, Ranked, ranked}
use Rattle.history.proofs.KnownPools.{Known, known_at_place, known, burning_at}

-- Pools of the same number and low, one such among pools, and lists of such.
record SameNumberAndLow (p q : BurningPool) : Type 0 where
  number : p.number ≡ q.number
  low : p.low ≡ q.low

abbrev Among : List BurningPool → BurningPool → Type 0
Among [] p = ⊥
Among (q ∷ qs) p = SameNumberAndLow p q ⊎ Among qs p

abbrev AllSame : List BurningPool → List BurningPool → Type 0
AllSame [] [] = Unit
AllSame [] (q ∷ qs) = ⊥
AllSame (p ∷ ps) [] = ⊥
AllSame (p ∷ ps) (q ∷ qs) = SameNumberAndLow p q × AllSame ps qs

same_after : (p q r : BurningPool) → SameNumberAndLow p q → SameNumberAndLow q r → SameNumberAndLow p r
same_after p q r a b = record { number = a.number ∙ b.number; low = a.low ∙ b.low }

back : (p q : BurningPool) → SameNumberAndLow p q → SameNumberAndLow q p
back p q a = record { number = sym a.number; low = sym a.low }

among_alike : (ps : List BurningPool) (p q : BurningPool) → SameNumberAndLow p q → Among ps q → Among ps p
among_alike [] p q a m = m
among_alike (r ∷ rs) p q a (inl b) = inl (same_after p q r a b)
among_alike (r ∷ rs) p q a (inr m) = inr (among_alike rs p q a m)

among_at : (ps : List BurningPool) (i : ℕ) → i < length ps → Among ps (pool_at ps i)
among_at [] i l = absurd (omega arith)
among_at (p ∷ ps) zero l = inl (record { number = refl; low = refl })
among_at (p ∷ ps) (suc i) l = inr (among_at ps i (omega arith))

-- ---- a pool that leads all of a list has no pool alike in it
none_alike : (p q : BurningPool) (ps : List BurningPool) → Each (Leads p) ps → SameNumberAndLow p q → Among ps q → ⊥
none_alike p q [] e a m = m
none_alike p q (r ∷ rs) e a (inl b) =
    omega (arith, e.0.number (a.low ∙ b.low), a.number, b.number)
none_alike p q (r ∷ rs) e a (inr m) = none_alike p q rs e.1 a m

leads_among : (p q : BurningPool) (ps : List BurningPool) → Each (Leads p) ps → Among ps q → Leads p q
leads_among p q [] e m = absurd m
leads_among p q (r ∷ rs) e (inl b) =
    record { low = omega (arith, e.0.low, b.low); number = λ k. omega (arith, e.0.number (k ∙ b.low), b.number) }
leads_among p q (r ∷ rs) e (inr m) = leads_among p q rs e.1 m

-- ---- ranked lists of the same pools
heads : (p q : BurningPool) (ps qs : List BurningPool) → Ranked (p ∷ ps) → Ranked (q ∷ qs) → Among (q ∷ qs) p → Among (p ∷ ps) q → SameNumberAndLow p q
heads p q ps qs r s (inl a) n = a
heads p q ps qs r s (inr m) (inl a) = back q p a
heads p q ps qs r s (inr m) (inr n) =
    let one = leads_among q p qs s.0 m in
    let other = leads_among p q ps r.0 n in
    absurd (omega (arith, one.low, other.low, one.number (omega (arith, one.low, other.low)), other.number (omega (arith, one.low, other.low))))

-- Without the first pool of each.
rest : (p q : BurningPool) (ps qs : List BurningPool) → SameNumberAndLow p q → Each (Leads p) ps → Each (Among (q ∷ qs)) ps → Each (Among qs) ps
rest p q ps qs a e m = each_by_place (Among qs) ps at
  where
    at : (i : ℕ) → i < length ps → Among qs (pool_at ps i)
    at i l =
        ⊎_elim
        (λ b. absurd (none_alike p (pool_at ps i) ps e (same_after p q (pool_at ps i) a (back (pool_at ps i) q b)) (among_at ps i l)))
        (λ n. n)
        (each_at (Among (q ∷ qs)) ps m i l)

all_alike : (ps qs : List BurningPool) → Ranked ps → Ranked qs → Each (Among qs) ps → Each (Among ps) qs → AllSame ps qs
all_alike [] [] r s m n = tt
all_alike [] (q ∷ qs) r s m n = n.0
all_alike (p ∷ ps) [] r s m n = m.0
all_alike (p ∷ ps) (q ∷ qs) r s m n =
    let a = heads p q ps qs r s m.0 n.0 in
    (a, all_alike ps qs r.1 s.1 (rest p q ps qs a r.0 m.1) (rest q p qs ps (back p q a) s.0 n.1))

until_alike : (limit sum : ℕ) (ps qs : List BurningPool) → AllSame ps qs → until_over limit sum ps ≡ until_over limit sum qs
until_alike limit sum [] [] a = refl
until_alike limit sum [] (q ∷ qs) a = absurd a
until_alike limit sum (p ∷ ps) [] a = absurd a
until_alike limit sum (p ∷ ps) (q ∷ qs) a =
    elim (dec_le sum limit) [
      | yes l ↦
          until_next limit sum p ps l ∙ ap (λ n. n ∷ until_over limit (sum + p.low) ps) a.0.number
          ∙ ap (λ low. q.number ∷ until_over limit (sum + low) ps) a.0.low
          ∙ ap (λ ns. q.number ∷ ns) (until_alike limit (sum + q.low) ps qs a.1) ∙ sym (until_next limit sum q qs l)
      | no l ↦ until_reached limit sum (p ∷ ps) (lt_of_not-le l) ∙ sym (until_reached limit sum (q ∷ qs) (lt_of_not-le l))
    ]

-- ---- after two lists of calls
abbrev pools : List Call → List BurningPool
pools calls = in_order (after calls).places

each_among : (these those : List Call) → ((n : ℕ) → set_after these n ≡ set_after those n) → Each (Among (pools those)) (pools these)
each_among these those same = each_map (Known these) (Among (pools those)) found (pools these) (known these)
  where
    there : Each (λ q. (q.number ≡ 0 → ⊥) → Among (pools those) q) (after those).places
    there = each_burning (Among (pools those)) (after those).places (each_by_place (Among (pools those)) (pools those) (among_at (pools those)))

    found : (p : BurningPool) → Known these p → Among (pools those) p
    found p k = by_place (burning_at those p.number (ap is_lit (sym (same p.number)) ∙ k.burning)).1
      where
        by_place : {E : Enquiry} → Burns (after those) p.number E → Among (pools those) p
        by_place b =
            let i = b.place in
            let qs = (after those).places in
            let l : i < length qs = omega (arith, b.there, claims.places those) in
            let burning : (pool_at qs i).number ≡ 0 → ⊥ = λ z. omega (arith, z, b.number_there, b.least) in
            let lows : p.low ≡ (pool_at qs i).low =
            sym k.low ∙ ap (figure_of (λ E. (flux_of E).low)) (same p.number) ∙ ap (low_after those) (sym b.number_there)
            ∙ (known_at_place those i l burning).low in
            among_alike (pools those) p (pool_at qs i) (record { number = sym b.number_there; low = lows })
            (each_at (λ q. (q.number ≡ 0 → ⊥) → Among (pools those) q) qs there i l burning)

pub same_given :
    (these those : List Call) → ((n : ℕ) → set_after these n ≡ set_after those n)
    → (limit : ℕ) → until_over limit 0 (pools these) ≡ until_over limit 0 (pools those)
same_given these those same limit =
    until_alike limit 0 (pools these) (pools those)
    (all_alike (pools these) (pools those) (ranked (after these).places (follows these).sound) (ranked (after those).places (follows those).sound)
    (each_among these those same) (each_among those these (λ n. sym (same n))))
