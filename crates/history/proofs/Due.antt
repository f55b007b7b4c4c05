-- What a call is answered, from whether its pool burns and how many burn, in the order of the refusals. By the outcomes of the tests.
-- Assumes nothing.
use mathlib.Core.Path.{◌≡◌, refl, ap, ◌∙◌}
use mathlib.Core.Bool.{Bool, true, false, ◌||◌, not}
use mathlib.Core.Option.{Option, none, some}
use mathlib.Core.List.{List}
use Prim.Native.Nat.{ℕ, zero, suc, ◌≤◌, ◌<◌}
use native.Mathlib.Omega.{arith}
use lib.Dec.{leb, ltb, lit<}
use borrow.Author.Tests.{lt-ltb, leb-true, le-leb, lt-leb}
use Rattle.pairs.specs.Figures.{refuse}
use Rattle.chain.specs.Flux.{outside, flux_of}
use Rattle.chain.specs.declared.enquiry.Enquiry.{Enquiry}
use Rattle.chain.proofs.Limits.{between, inside, never_above_19}
use Rattle.register.specs.declared.places.Register.{Register}
use Rattle.register.specs.Places.{vacant, has}
use Rattle.register.specs.Sums.{how_many}
use Rattle.register.specs.Calls.{Shown, refused, with_first, lit, light_of, put_out_of}
use Rattle.history.specs.History.{Call, Light, PutOut, called, Answered, about, lit_with, is_lit, afresh, due}

-- Whether a pool burns counts from number 1 on.
in_span : (number : ℕ) (a b : Bool) → (1 ≤ number → a ≡ b) → (outside 1 255 number || a) ≡ (outside 1 255 number || b)
in_span number a b same = by_span (outside 1 255 number) refl
  where
    by_span : (t : Bool) → outside 1 255 number ≡ t → (outside 1 255 number || a) ≡ (outside 1 255 number || b)
    by_span true o = rw o
    by_span false o = ap (λ t. outside 1 255 number || t) (same (between 1 255 number o).low)

module _ (R : Register) (h : List Answered) where
  -- The state alone.
  state_of_lit : (a b : Bool) (s : ℕ) (x : Shown) → x.state ≡ 0
      → (refuse a (refused 51 R) (refuse b (refused 52 R) (refuse (ltb 0 s) (refused s R) x))).state ≡ refuse a 51 (refuse b 52 s)
  state_of_lit true b s x e = refl
  state_of_lit false true s x e = refl
  state_of_lit false false zero x e = e
  state_of_lit false false (suc s) x e = rw (lt-ltb 0 (suc s) (omega arith))

  state_of_out : (a : Bool) (x : Shown) → x.state ≡ 0 → (refuse a (refused 51 R) x).state ≡ refuse a 51 0
  state_of_out true x e = refl
  state_of_out false x e = e

  pub answered_due :
      ((n : ℕ) → 1 ≤ n → has n R.places ≡ is_lit (lit_with n h)) → how_many R ≡ (afresh h).burning → (c : Call) → (called R c).state ≡ due h c
  unfolding light_of put_out_of due
  answered_due burning many (Light number E) =
      state_of_lit (outside 1 255 number || has number R.places) (leb 32 (how_many R)) (flux_of E).state (with_first 0 (lit number E) R) refl
      ∙ ap (λ t. refuse t 51 (refuse (leb 32 (how_many R)) 52 (flux_of E).state)) (in_span number _ _ (burning number))
      ∙ ap (λ m. refuse (outside 1 255 number || is_lit (lit_with number h)) 51 (refuse (leb 32 m) 52 (flux_of E).state)) many
  answered_due burning many (PutOut number) =
      state_of_out (outside 1 255 number || not (has number R.places)) (with_first number vacant R) refl
      ∙ ap (λ t. refuse t 51 0) (in_span number _ _ (λ l. ap not (burning number l)))

-- 52 is due only where 32 burn: no flux is refused by it.
pub only_full : (h : List Answered) (number : ℕ) (E : Enquiry) → due h (Light number E) ≡ 52 → 32 ≤ (afresh h).burning
unfolding due
only_full h number E = by_tests (outside 1 255 number || is_lit (lit_with number h)) (leb 32 (afresh h).burning) refl
  where
    by_tests : (a b : Bool) → leb 32 (afresh h).burning ≡ b → refuse a 51 (refuse b 52 (flux_of E).state) ≡ 52 → 32 ≤ (afresh h).burning
    by_tests true b f e = absurd (omega (arith, e))
    by_tests false true f e = leb-true 32 (afresh h).burning f
    by_tests false false f e = absurd (never_above_19 E 52 (lit< tt) e)

-- ---- for a number from 1 to 255
module _ (h : List Answered) (number : ℕ) (E : Enquiry) (least : 1 ≤ number) (most : number ≤ 255) where
  within : outside 1 255 number ≡ false
  within = inside 1 255 number least most

  pub due_accepted : lit_with number h ≡ none → (afresh h).burning < 32 → (flux_of E).state ≡ 0 → due h (Light number E) ≡ 0
  unfolding due
  due_accepted out space e = rw (within, out, lt-leb 32 (afresh h).burning space, e)

  pub due_full : lit_with number h ≡ none → 32 ≤ (afresh h).burning → due h (Light number E) ≡ 52
  unfolding due
  due_full out full = rw (within, out, le-leb 32 (afresh h).burning full)

  pub due_out : lit_with number h ≡ some E → due h (PutOut number) ≡ 0
  unfolding due
  due_out burns = rw (within, burns)

-- With fewer than 32 burning, what is due depends on the call's own pool alone.
pub due_alike :
    (h k : List Answered) (c : Call) → lit_with (about c) h ≡ lit_with (about c) k → (afresh h).burning < 32 → (afresh k).burning < 32 → due h c ≡ due k c
unfolding due
due_alike h k (Light number E) same few fewer =
    rw (lt-leb 32 (afresh h).burning few, lt-leb 32 (afresh k).burning fewer)
    (ap (λ (p : Option Enquiry). refuse (outside 1 255 number || is_lit p) 51 (flux_of E).state) same)
due_alike h k (PutOut number) same few fewer = ap (λ (p : Option Enquiry). refuse (outside 1 255 number || not (is_lit p)) 51 0) same
