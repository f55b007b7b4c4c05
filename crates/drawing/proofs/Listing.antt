-- Groups one after the other: in a list, in an array that is three zeros at first, and as floats in a lent slice.
-- By the laws of append and of writes in a row. Assumes nothing.
use mathlib.Core.Path.{◌≡◌, refl, ap, ◌∙◌}
use mathlib.Core.List.{List, [], ◌∷◌, ◌++◌}
use Prim.Native.Nat.{ℕ, zero, suc, ◌+◌, ◌-◌, ◌*◌, ◌≤◌, ◌<◌}
use native.Mathlib.Numerals.{add-one}
use native.Mathlib.Omega.{arith}
use Rattle.std.proofs.lemmas.List.{drop-replicate}
use lib.ListN.{length, drop, set, get_or, replicate, length-append, length-replicate, get_or-append}
use lib.Ieee.{Float}
use Rattle.sheet.specs.Layout.{most_targets}
use Rattle.sheet.specs.Private.{pasted}
use Rattle.sheet.proofs.Pasting.{join, store_after}
use Rattle.drawing.specs.declared.figures.Group.{Group}
use Rattle.drawing.specs.Figures.{three_zeros}
use Rattle.drawing.specs.Groups.{listed, padded}
use Rattle.drawing.specs.Lent.{group_size, floats, laid_out}

-- ---- the first n groups
pub listed_length : (group : ℕ → Group) (n : ℕ) → length (listed group n) ≡ n
unfolding listed
listed_length group zero = refl
listed_length group (suc n) = length-append (listed group n) (group n ∷ []) ∙ omega (arith, listed_length group n)

pub listed_more : (group : ℕ → Group) (n : ℕ) → listed group (n + 1) ≡ listed group n ++ (group n ∷ [])
unfolding listed
listed_more group n = ap (listed group) (add-one n)

pub listed_same : (f g : ℕ → Group) (n : ℕ) → ((i : ℕ) → i < n → f i ≡ g i) → listed f n ≡ listed g n
unfolding listed
listed_same f g zero same = refl
listed_same f g (suc n) same = rw (listed_same f g n (λ i h. same i (omega arith)), same n (omega arith))

-- ---- in an array
padded_length : (group : ℕ → Group) (n : ℕ) → n ≤ most_targets → length (padded (listed group n)) ≡ most_targets
padded_length group n few =
    let past = most_targets - length (listed group n) in
    length-append (listed group n) (replicate past three_zeros) ∙ omega (arith, listed_length group n, length-replicate past three_zeros)

pub one_stored :
    (group : ℕ → Group) (d e : List Group) (i : ℕ) (g : Group) → i < length d → e ≡ pasted d 0 (listed group i) → g ≡ group i
    → set e i g ≡ pasted d 0 (listed group (i + 1))
one_stored group d e i g h p q =
    let at : i ≡ 0 + length (listed group i) = omega (arith, listed_length group i) in
    let after = store_after d 0 (listed group i) g (omega (arith, listed_length group i)) in
    ap (λ (x : List Group). set x i g) p
    ∙ ap (λ (k : ℕ). set (pasted d 0 (listed group i)) k g) at
    ∙ after
    ∙ rw (q, listed_more group i)

pub all_stored : (gs : List Group) → pasted (replicate most_targets three_zeros) 0 gs ≡ padded gs
unfolding pasted
all_stored gs =
    let at : 0 + length gs ≡ length gs = omega arith in
    ap (λ (k : ℕ). gs ++ drop k (replicate most_targets three_zeros)) at
    ∙ ap (λ (rest : List Group). gs ++ rest) (drop-replicate (length gs) most_targets three_zeros)

-- ---- in a lent slice
laid_out_append : (gs hs : List Group) → laid_out (gs ++ hs) ≡ laid_out gs ++ laid_out hs
unfolding laid_out
laid_out_append [] hs = refl
laid_out_append (g ∷ gs) hs = ap (λ (rest : List Float). floats g ++ rest) (laid_out_append gs hs)

pub laid_out_length : (gs : List Group) → length (laid_out gs) ≡ group_size * length gs
unfolding laid_out
laid_out_length [] = refl
laid_out_length (g ∷ gs) = omega (arith, laid_out_length gs)

listed_laid_out : (group : ℕ → Group) (n : ℕ) → length (laid_out (listed group n)) ≡ group_size * n
listed_laid_out group n = omega (arith, laid_out_length (listed group n), listed_length group n)

pub one_laid_out :
    (group : ℕ → Group) (d e f : List Float) (i : ℕ) (g : Group) → group_size * (i + 1) ≤ length d → e ≡ pasted d 0 (laid_out (listed group i))
    → g ≡ group i → f ≡ pasted e (group_size * i) (floats g) → f ≡ pasted d 0 (laid_out (listed group (i + 1)))
unfolding laid_out
one_laid_out group d e f i g h p q r =
    let before = laid_out (listed group i) in
    let at : group_size * i ≡ 0 + length before = omega (arith, listed_laid_out group i) in
    let more : laid_out (listed group (i + 1)) ≡ before ++ floats (group i) = ap laid_out (listed_more group i) ∙ laid_out_append (listed group i) (group i ∷ []) in
    r ∙ rw (p, q, at, more) (join d 0 before (floats (group i)) (omega (arith, listed_laid_out group i)))

pub all_laid_out : (group : ℕ → Group) (d : List Float) (n : ℕ) → pasted d 0 (laid_out (listed group n)) ≡ laid_out (listed group n) ++ drop (group_size * n) d
unfolding pasted
all_laid_out group d n =
    let at : 0 + length (laid_out (listed group n)) ≡ group_size * n = omega (arith, listed_laid_out group n) in
    ap (λ (k : ℕ). laid_out (listed group n) ++ drop k d) at

-- ---- what holds of every element
any_other : {A : Type 0} (l : List A) (i : ℕ) (d e : A) → i < length l → get_or l i d ≡ get_or l i e
any_other [] i d e h = absurd (omega arith)
any_other (x ∷ l) zero d e h = refl
any_other (x ∷ l) (suc i) d e h = any_other l i d e (omega arith)

each_append :
    {A : Type 0} (P : A → Type 0) (d : A) (xs ys : List A) → ((i : ℕ) → P (get_or xs i d)) → ((i : ℕ) → P (get_or ys i d)) → (i : ℕ)
    → P (get_or (xs ++ ys) i d)
each_append P d [] ys h k i = k i
each_append P d (x ∷ xs) ys h k zero = h zero
each_append P d (x ∷ xs) ys h k (suc i) = each_append P d xs ys (λ j. h (suc j)) k i

each_cons : {A : Type 0} (P : A → Type 0) (d x : A) (xs : List A) → P x → ((i : ℕ) → P (get_or xs i d)) → (i : ℕ) → P (get_or (x ∷ xs) i d)
each_cons P d x xs h k zero = h
each_cons P d x xs h k (suc i) = k i

each_replicated : {A : Type 0} (P : A → Type 0) (d : A) → P d → (n i : ℕ) → P (get_or (replicate n d) i d)
each_replicated P d h zero i = h
each_replicated P d h (suc n) zero = h
each_replicated P d h (suc n) (suc i) = each_replicated P d h n i

module _ (P : Group → Type 0) (group : ℕ → Group) (of_zeros : P three_zeros) (of_each : (i : ℕ) → P (group i)) where
  each_listed : (n i : ℕ) → P (get_or (listed group n) i three_zeros)
  unfolding listed
  each_listed zero i = of_zeros
  each_listed (suc n) i = each_append P three_zeros (listed group n) (group n ∷ []) (each_listed n) (each_cons P three_zeros (group n) [] (of_each n) (λ _. of_zeros)) i

  pub each_padded : (n : ℕ) → n ≤ most_targets → (i : ℕ) → i < most_targets → (other : Group) → P (get_or (padded (listed group n)) i other)
  each_padded n few i h other =
      let past = replicate (most_targets - length (listed group n)) three_zeros in
      rw (any_other (padded (listed group n)) i other three_zeros (rw (padded_length group n few) h))
      (each_append P three_zeros (listed group n) past (each_listed n) (each_replicated P three_zeros of_zeros (most_targets - length (listed group n))) i)

each_laid_out :
    (P : Float → Type 0) (group : ℕ → Group) (d : Float) → P d → ((i : ℕ) → P (group i).low × P (group i).middle × P (group i).high)
    → (n i : ℕ) → P (get_or (laid_out (listed group n)) i d)
unfolding listed laid_out
each_laid_out P group d h each zero i = h
each_laid_out P group d h each (suc n) i =
    let g = group n in
    let p = each n in
    rw (laid_out_append (listed group n) (group n ∷ []))
    (each_append P d (laid_out (listed group n)) (floats (group n)) (each_laid_out P group d h each n)
    (each_cons P d g.low (g.middle ∷ g.high ∷ []) p.0
    (each_cons P d g.middle (g.high ∷ []) p.1 (each_cons P d g.high [] p.2 (λ _. h))))
    i)

pub each_lent :
    (P : Float → Type 0) (group : ℕ → Group) (d : Float) → P d → ((i : ℕ) → P (group i).low × P (group i).middle × P (group i).high)
    → (n : ℕ) (rest : List Float) (i : ℕ) → i < group_size * n → (other : Float) → P (get_or (laid_out (listed group n) ++ rest) i other)
each_lent P group d h each n rest i l other =
    let all = laid_out (listed group n) in
    let inside : i < length all = omega (arith, listed_laid_out group n) in
    rw (get_or-append all rest other i inside, any_other all i other d inside) (each_laid_out P group d h each n i)
