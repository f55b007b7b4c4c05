-- The register after a list of calls follows what the list says: sound places, and the pool of each number as its last accepted call left
-- it. By induction over the calls; a refused call changes neither. Assumes nothing.
use mathlib.Core.Path.{◌≡◌, refl, sym, ap, ◌∙◌}
use mathlib.Core.Bool.{Bool, true, false, ◌&&◌}
use mathlib.Core.Option.{none}
use mathlib.Core.List.{List, [], ◌∷◌}
use Prim.Native.Nat.{ℕ, zero, suc, ◌≤◌, ◌<◌}
use native.Mathlib.Omega.{arith}
use native.Mathlib.Decide.{ℕ_discrete}
use lib.ListN.{length, replicate, length-replicate}
use lib.Dec.{eqb}
use borrow.Author.Tests.{eq-eqb, ne_eqb}
use Rattle.chain.specs.declared.enquiry.Enquiry.{Enquiry}
use Rattle.chain.specs.Flux.{outside, flux_of}
use Rattle.chain.proofs.Limits.{between}
use Rattle.register.specs.declared.places.BurningPool.{BurningPool}
use Rattle.register.specs.declared.places.Register.{Register}
use Rattle.register.specs.Places.{vacant, has}
use Rattle.register.specs.Sums.{how_many}
use Rattle.register.specs.Calls.{Shown, replaced, lit, with_first}
use Rattle.history.specs.History.{Call, Light, PutOut, called, after, Answered, history, about, leaves, lit_with}
use Rattle.register.proofs.FirstPlace.{vacant_there, long_replaced}
use Rattle.register.proofs.Outcomes.{by_light, by_put_out}
use Rattle.history.proofs.Lookup.{lookup, lookup_none, lookup_later, lookup_other, lookup_pool, lookup_out, Beside, Sound, sound_replaced}

pub record Follows (R : Register) (h : List Answered) : Type 0 where
  pub long : length R.places ≡ 32
  pub sound : Sound R.places
  pub same : (n : ℕ) → 1 ≤ n → lookup n R.places ≡ lit_with n h
  pub no_zero : lit_with 0 h ≡ none

-- ---- what a call adds to the history
module _ (c : Call) (h : List Answered) (n : ℕ) where
  pub after_refused : (s : ℕ) → 0 < s → lit_with n (record { call = c; state = s } ∷ h) ≡ lit_with n h
  unfolding lit_with
  after_refused s p =
      ap (λ (t : Bool). elim (t && eqb (about c) n) [ true ↦ leaves c | false ↦ lit_with n h ]) (ne_eqb s 0 (λ e. omega arith))

  pub after_accepted : about c ≡ n → lit_with n (record { call = c; state = 0 } ∷ h) ≡ leaves c
  unfolding lit_with
  after_accepted e = rw (eq-eqb (about c) n e, lit_with)

  pub after_other : (about c ≡ n → ⊥) → lit_with n (record { call = c; state = 0 } ∷ h) ≡ lit_with n h
  unfolding lit_with
  after_other e = rw (ne_eqb (about c) n e, lit_with)

-- ---- one call
module _ (R : Register) (h : List Answered) (f : Follows R h) where
  abbrev Next : Call → Shown → Type 0
  Next c s = Follows s.register (record { call = c; state = s.state } ∷ h)

  kept : (c : Call) (s : ℕ) → 0 < s → Next c (record { state = s; register = R })
  kept c s p =
      record {
        long = f.long;
        sound = f.sound;
        same = λ n l. f.same n l ∙ sym (after_refused c h n s p);
        no_zero = after_refused c h 0 s p ∙ f.no_zero;
      }

  changed :
      (c : Call) (n : ℕ) (pool : BurningPool) → 1 ≤ about c → Sound (replaced n pool R.places)
      → lookup (about c) (replaced n pool R.places) ≡ leaves c
      → ((m : ℕ) → 1 ≤ m → (about c ≡ m → ⊥) → lookup m (replaced n pool R.places) ≡ lookup m R.places)
      → Next c (with_first n pool R)
  changed c n pool l sound is other =
      record {
        long = long_replaced n pool R.places ∙ f.long;
        sound = sound;
        same =
            λ m k. elim (ℕ_discrete (about c) m) [
              | yes e ↦ ap (λ j. lookup j (replaced n pool R.places)) (sym e) ∙ is ∙ sym (after_accepted c h m e)
              | no e ↦ other m k e ∙ f.same m k ∙ sym (after_other c h m e)
            ];
        no_zero = after_other c h 0 (λ e. omega arith) ∙ f.no_zero;
      }

  lights :
      (number : ℕ) (E : Enquiry) → outside 1 255 number ≡ false → has number R.places ≡ false → how_many R < 32 → (flux_of E).state ≡ 0
      → Next (Light number E) (with_first 0 (lit number E) R)
  lights number E o out space e =
      let within = between 1 255 number o in
      let new : Beside (lit number E) R.places = record { lit = record { most = omega (arith, within.high); low = refl; high = refl; accepted = e }; new = out } in
      changed (Light number E) 0 (lit number E) within.low (sound_replaced 0 (lit number E) R.places (λ k. new) f.sound)
      (lookup_pool 0 (lit number E) R.places (vacant_there R.places f.long space) out)
      (λ m l other. lookup_other 0 (lit number E) m other (λ z. omega (arith, z, l)) R.places)

  puts_out : (number : ℕ) → outside 1 255 number ≡ false → Next (PutOut number) (with_first number vacant R)
  puts_out number o =
      let within = between 1 255 number o in
      changed (PutOut number) number vacant within.low (sound_replaced number vacant R.places (λ k. absurd (k refl)) f.sound)
      (lookup_out number vacant refl (λ z. omega (arith, z, within.low)) R.places f.sound)
      (λ m l other. lookup_other number vacant m (λ z. omega (arith, z, l)) other R.places)

  next : (c : Call) → Next c (called R c)
  next (Light number E) = by_light R (Next (Light number E)) (kept (Light number E)) number E (lights number E)
  next (PutOut number) = by_put_out R (Next (PutOut number)) (kept (PutOut number)) number (λ o burning. puts_out number o)

-- ---- the empty register
sound_vacant : (n : ℕ) → Sound (replicate n vacant)
sound_vacant zero = tt
sound_vacant (suc n) = (λ k. absurd (k refl), sound_vacant n)

lookup_vacant : (m : ℕ) → 1 ≤ m → (n : ℕ) → lookup m (replicate n vacant) ≡ none
lookup_vacant m l zero = lookup_none m
lookup_vacant m l (suc n) = lookup_later m vacant (replicate n vacant) (λ e. omega (arith, e, l)) ∙ lookup_vacant m l n

pub nothing_lit : (n : ℕ) → lit_with n [] ≡ none
unfolding lit_with
nothing_lit n = refl

pub follows : (calls : List Call) → Follows (after calls) (history calls)
unfolding after history
follows [] =
    record {
      long = length-replicate 32 vacant;
      sound = sound_vacant 32;
      same = λ n l. lookup_vacant n l 32 ∙ sym (nothing_lit n);
      no_zero = nothing_lit 0;
    }
follows (c ∷ earlier) = next (after earlier) (history earlier) (follows earlier) c
