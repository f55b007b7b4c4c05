-- The outcomes of a call, in the order of its refusals, from what the search over the places finds. By the outcomes of the tests.
-- Assumes nothing.
use mathlib.Core.Path.{◌≡◌, refl, sym, ap, subst, ◌∙◌}
use mathlib.Core.Bool.{Bool, true, false}
use Prim.Native.Nat.{ℕ, zero, suc, ◌≤◌, ◌<◌}
use native.Mathlib.Nat.{lt_of_not-le}
use native.Mathlib.Decide.{dec_le}
use native.Mathlib.Omega.{arith}
use lib.ListN.{length, set}
use borrow.Author.Tests.{lt-ltb, le-ltb, le-leb, lt-leb}
use Rattle.std.specs.Prelude.{◌==◌, if◌then◌else◌, position, is_some, IsErr, IsErrAnd}
use Rattle.std.specs.Option.{ok_or}
use Rattle.std.proofs.Common.{Result, Ok, Err, Option, Some, None}
use Rattle.register.specs.declared.calls.CallRefusal.{CallRefusal}
use Rattle.register.specs.declared.calls.CallRefusal.TheVariants.{Number}
use Rattle.chain.specs.declared.enquiry.Enquiry.{Enquiry}
use Rattle.chain.specs.Flux as flux
use Rattle.chain.specs.Flux.{outside, flux_of}
use Rattle.register.specs.declared.places.BurningPool.{BurningPool}
use Rattle.register.specs.declared.places.Register.{Register}
use Rattle.register.specs.Places.{vacant, has}
use Rattle.register.specs.Sums.{how_many}
use Rattle.register.specs.Calls.{Shown, refusal_number, shown, refused, accepted, with_first, lit, light_of, put_out_of}
use Rattle.register.proofs.ByNumber.{first_of}
use Rattle.register.proofs.FirstPlace.{has_place, no_place, replaced_is_set, one_vacant, all_burn}

-- ---- a pool is lit
module _ (R : Register) (number : ℕ) (E : Enquiry) where
  pub lit_outside : outside 1 255 number ≡ true → light_of R number E ≡ refused 51 R
  unfolding light_of
  lit_outside o = rw o

  module _ (o : outside 1 255 number ≡ false) where
    pub lit_burning : has number R.places ≡ true → light_of R number E ≡ refused 51 R
    unfolding light_of
    lit_burning h = rw (o, h)

    module _ (h : has number R.places ≡ false) where
      pub lit_full : 32 ≤ how_many R → light_of R number E ≡ refused 52 R
      unfolding light_of
      lit_full f = rw (o, h, le-leb 32 (how_many R) f)

      module _ (f : how_many R < 32) where
        pub lit_refused : (n : ℕ) → 0 < n → (flux_of E).state ≡ n → light_of R number E ≡ refused n R
        unfolding light_of
        lit_refused n p e = rw (o, h, lt-leb 32 (how_many R) f, e, lt-ltb 0 n p)

        pub lit_accepted : (flux_of E).state ≡ 0 → light_of R number E ≡ with_first 0 (lit number E) R
        unfolding light_of
        lit_accepted e = rw (o, h, lt-leb 32 (how_many R) f, e)

-- The pool as the flux gives it.
pub lit_is :
    {number : ℕ} (E : Enquiry) (n : ℕ) → n ≡ number → (a : flux.Shown) → a ≡ flux_of E
    → ◌≡◌ {A = BurningPool} (record { number = n; enquiry = E; low = a.low; high = a.high }) (lit number E)
lit_is {number} E n o a e =
    ap (λ m. record { number = m; enquiry = E; low = a.low; high = a.high }) o
    ∙ ap (λ (s : flux.Shown). record { number = number; enquiry = E; low = s.low; high = s.high }) e

-- ---- a pool is put out
module _ (R : Register) (number : ℕ) where
  pub out_outside : outside 1 255 number ≡ true → put_out_of R number ≡ refused 51 R
  unfolding put_out_of
  out_outside o = rw o

  module _ (o : outside 1 255 number ≡ false) where
    pub out_not_burning : has number R.places ≡ false → put_out_of R number ≡ refused 51 R
    unfolding put_out_of
    out_not_burning h = rw (o, h)

    pub out_accepted : has number R.places ≡ true → put_out_of R number ≡ with_first number vacant R
    unfolding put_out_of
    out_accepted h = rw (o, h)

-- ---- there is no other
module _ (R : Register) (P : Shown → Type 0) (refusal : (n : ℕ) → 0 < n → P (refused n R)) where
  pub by_light :
      (number : ℕ) (E : Enquiry)
      → (outside 1 255 number ≡ false → has number R.places ≡ false → how_many R < 32 → (flux_of E).state ≡ 0 → P (with_first 0 (lit number E) R))
      → P (light_of R number E)
  by_light number E accepted = by_number_test (outside 1 255 number) refl
    where
      by_state : outside 1 255 number ≡ false → has number R.places ≡ false → how_many R < 32 → (n : ℕ) → (flux_of E).state ≡ n → P (light_of R number E)
      by_state o h f zero e = rw (lit_accepted R number E o h f e) (accepted o h f e)
      by_state o h f (suc n) e = rw (lit_refused R number E o h f (suc n) (omega arith) e) (refusal (suc n) (omega arith))

      by_burning : outside 1 255 number ≡ false → (b : Bool) → has number R.places ≡ b → P (light_of R number E)
      by_burning o true h = rw (lit_burning R number E o h) (refusal 51 (omega arith))
      by_burning o false h =
          elim (dec_le 32 (how_many R)) [
            | yes f ↦ rw (lit_full R number E o h f) (refusal 52 (omega arith))
            | no f ↦ by_state o h (lt_of_not-le f) (flux_of E).state refl
          ]

      by_number_test : (b : Bool) → outside 1 255 number ≡ b → P (light_of R number E)
      by_number_test true o = rw (lit_outside R number E o) (refusal 51 (omega arith))
      by_number_test false o = by_burning o (has number R.places) refl

  pub by_put_out :
      (number : ℕ) → (outside 1 255 number ≡ false → has number R.places ≡ true → P (with_first number vacant R)) → P (put_out_of R number)
  by_put_out number accepted = by_number_test (outside 1 255 number) refl
    where
      by_burning : outside 1 255 number ≡ false → (b : Bool) → has number R.places ≡ b → P (put_out_of R number)
      by_burning o true h = rw (out_accepted R number o h) (accepted o h)
      by_burning o false h = rw (out_not_burning R number o h) (refusal 51 (omega arith))

      by_number_test : (b : Bool) → outside 1 255 number ≡ b → P (put_out_of R number)
      by_number_test true o = rw (out_outside R number o) (refusal 51 (omega arith))
      by_number_test false o = by_burning o (has number R.places) refl

-- ---- by what a search over 32 places finds
module _ (R : Register) (long : length R.places ≡ 32) (n : ℕ) (place : Option ℕ) (at : place ≡ position (λ p. p.number == n) R.places) where
  place_is : (i : ℕ) → place ≡ Some i → (i ≡ first_of n R.places) × (first_of n R.places < length R.places)
  place_is i e =
      elim (dec_le (length R.places) (first_of n R.places)) [
        | yes k ↦ absurd (let none = rw (le-ltb _ _ k) at at in cc)
        | no k ↦ (let some = rw (lt-ltb _ _ (lt_of_not-le k)) at at in cc, lt_of_not-le k)
      ]

  among : is_some place ≡ true → first_of n R.places < length R.places
  among = by_place place refl
    where
      by_place : (o : Option ℕ) → place ≡ o → is_some o ≡ true → first_of n R.places < length R.places
      by_place None e s = absurd (cc s)
      by_place (Some i) e s = (place_is i e).1

  past : is_some place ≡ false → length R.places ≤ first_of n R.places
  past e =
      elim (dec_le (length R.places) (first_of n R.places)) [
        | yes k ↦ k
        | no k ↦ absurd (let some = rw (lt-ltb _ _ (lt_of_not-le k)) at at in let found = ap is_some some in cc)
      ]

  burning_by : is_some place ≡ true → has n R.places ≡ true
  burning_by s = has_place n R.places (among s)

  not_burning_by : is_some place ≡ false → has n R.places ≡ false
  not_burning_by s = no_place n R.places (past s)

  pub set_there : (i : ℕ) → place ≡ Some i → (p pool : BurningPool) → p ≡ pool → accepted (record { places = set R.places i p }) ≡ with_first n pool R
  set_there i e p pool is =
      ap {B = Shown} (λ ps. accepted (record { places = ps }))
      (ap (set R.places i) is ∙ ap (λ j. set R.places j pool) (place_is i e).0 ∙ sym (replaced_is_set n pool R.places))

  pub space_by : n ≡ 0 → is_some place ≡ true → how_many R < 32
  space_by z s = omega (arith, one_vacant R.places (subst (λ k. first_of k R.places < length R.places) z (among s)), long)

  pub full_by : n ≡ 0 → is_some place ≡ false → 32 ≤ how_many R
  full_by z s = omega (arith, all_burn R.places (subst (λ k. length R.places ≤ first_of k R.places) z (past s)), long)

-- ---- by what the number comes to, and by a refusal that is handed on
module _ (number : ℕ) (taken : Result ℕ CallRefusal) (t : taken ≡ (if outside 1 255 number then Err Number else Ok number)) where
  pub number_refused : (why : CallRefusal) → taken ≡ Err why → (outside 1 255 number ≡ true) × (why ≡ Number)
  number_refused why e = by_test (outside 1 255 number) refl
    where
      by_test : (b : Bool) → outside 1 255 number ≡ b → (outside 1 255 number ≡ true) × (why ≡ Number)
      by_test true o = let refused = rw o at t in (o, cc)
      by_test false o = absurd (let passed = rw o at t in cc)

  pub number_taken : (n : ℕ) → taken ≡ Ok n → (outside 1 255 number ≡ false) × (n ≡ number)
  number_taken n e = by_test (outside 1 255 number) refl
    where
      by_test : (b : Bool) → outside 1 255 number ≡ b → (outside 1 255 number ≡ false) × (n ≡ number)
      by_test false o = let passed = rw o at t in (o, cc)
      by_test true o = absurd (let refused = rw o at t in cc)

-- The number is from 1 to 255, and burns or not by the search for it.
module _
    (R : Register)
    (long : length R.places ≡ 32)
    (number : ℕ)
    (taken : Result ℕ CallRefusal)
    (t : taken ≡ (if outside 1 255 number then Err Number else Ok number))
    (n : ℕ)
    (passed : taken ≡ Ok n)
    (place : Option ℕ)
    (at : place ≡ position (λ p. p.number == n) R.places)
  where
    pub burns : is_some place ≡ true → (outside 1 255 number ≡ false) × (has number R.places ≡ true)
    burns s = let o = number_taken number taken t n passed in (o.0, subst (λ k. has k R.places ≡ true) o.1 (burning_by R long n place at s))

    pub is_out : is_some place ≡ false → (outside 1 255 number ≡ false) × (has number R.places ≡ false)
    is_out s = let o = number_taken number taken t n passed in (o.0, subst (λ k. has k R.places ≡ false) o.1 (not_burning_by R long n place at s))

pub handed_on :
    {why is : CallRefusal} (R : Register) (r : Result Unit CallRefusal) → IsErr r × IsErrAnd r (λ w. w ≡ why) → why ≡ is
    → shown r R ≡ refused (refusal_number is) R
handed_on R (Ok _) e i = absurd e.1
handed_on R (Err w) e i = ap (λ v. shown (Err v) R) (e.1 ∙ i)

pub refused_as : (place : Option ℕ) {why is : CallRefusal} → Err why ≡ ok_or place is → why ≡ is
refused_as None e = cc
refused_as (Some i) e = absurd (cc e)
