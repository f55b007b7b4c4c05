-- What is claimed of two calls in either order, and of a pool that is lit and put out again. A call looks at its own pool and at whether fewer
-- than 32 burn; the other call changes neither while at most 30 burn, and changes no pool but its own. Assumes nothing.
use mathlib.Core.Path.{◌≡◌, refl, sym, ap, ◌∙◌}
use mathlib.Core.Option.{none}
use mathlib.Core.List.{List, ◌∷◌}
use Prim.Native.Nat.{ℕ, ◌<◌}
use native.Mathlib.Omega.{arith}
use native.Mathlib.Decide.{ℕ_discrete}
use Rattle.chain.specs.declared.enquiry.Enquiry.{Enquiry}
use Rattle.register.specs.Sums.{sums_of}
use Rattle.history.specs.History.{Call, Light, PutOut, called, after, history, about}
use Rattle.history.specs.Claims.{Burns}
use Rattle.history.specs.OrderClaims.{set_after, SameSetAndSums, SamePoolsAndSums, OrderClaims}
use Rattle.history.proofs.Due.{due_alike}
use Rattle.history.proofs.Claims.{claims}
use Rattle.history.proofs.Sets.{set_accepted, set_refused, set_other, set_alike, same_by_set, burning_afresh, at_most_one_more_burns, burning_goes_out, out_after_put_out}

-- ---- two calls
module _ (before : List Call) (few : (sums_of (after before)).burning < 31) where
  answered_alike : (one other : Call) → (about other ≡ about one → ⊥) → (called (after (other ∷ before)) one).state ≡ (called (after before) one).state
  answered_alike one other different =
      claims.answered (other ∷ before) one
      ∙ due_alike (history (other ∷ before)) (history before) one (set_other before other (about one) different)
      (omega (arith, few, at_most_one_more_burns before other, burning_afresh (other ∷ before))) (omega (arith, few, burning_afresh before))
      ∙ sym (claims.answered before one)

  -- At a number that the first call is not about.
  apart_from_one :
      (one other : Call) → (about one ≡ about other → ⊥) → (n : ℕ) → (about one ≡ n → ⊥)
      → set_after (other ∷ one ∷ before) n ≡ set_after (one ∷ other ∷ before) n
  apart_from_one one other different n k =
      set_alike (one ∷ before) before other n (answered_alike other one different) (set_other before one n k) ∙ sym (set_other (other ∷ before) one n k)

  same_set :
      (one other : Call) → (about one ≡ about other → ⊥) → (n : ℕ) → set_after (other ∷ one ∷ before) n ≡ set_after (one ∷ other ∷ before) n
  same_set one other different n =
      elim (ℕ_discrete (about one) n) [
        | yes k ↦ sym (apart_from_one other one (λ e. different (sym e)) n (λ e. different (k ∙ sym e)))
        | no k ↦ apart_from_one one other different n k
      ]

module _ (before : List Call) where
  -- ---- lit and put out again
  out_again : (number : ℕ) (E : Enquiry) → set_after before number ≡ none → (n : ℕ) → set_after (PutOut number ∷ Light number E ∷ before) n ≡ set_after before n
  out_again number E out n =
      elim (ℕ_discrete number n) [
        | yes k ↦ ap (set_after (PutOut number ∷ Light number E ∷ before)) (sym k) ∙ out_after_put_out (Light number E ∷ before) number ∙ sym out ∙ ap (set_after before) k
        | no k ↦ set_other (Light number E ∷ before) (PutOut number) n k ∙ set_other before (Light number E) n k
      ]

  can_be_put_out :
      (number : ℕ) (E : Enquiry) → (called (after before) (Light number E)).state ≡ 0 → (called (after (Light number E ∷ before)) (PutOut number)).state ≡ 0
  can_be_put_out number E e = burning_goes_out (Light number E ∷ before) number E (set_accepted before (Light number E) number e refl)

-- ---- the registers
burns_too : (these those : List Call) → SameSetAndSums these those → (number : ℕ) (E : Enquiry) → Burns (after these) number E → Burns (after those) number E
burns_too these those same number E b = claims.lit those number E (sym (same.set number) ∙ claims.only_lit these number E b)

same_pools : (these those : List Call) → SameSetAndSums these those → SamePoolsAndSums (after these) (after those)
same_pools these those same =
    let back : SameSetAndSums those these = record { set = λ n. sym (same.set n); sums = sym same.sums } in
    record { in_second = burns_too these those same; in_first = burns_too those these back; sums = same.sums }

pub order_claims : OrderClaims
order_claims =
    record {
      answered_alike = λ before one other x. answered_alike before (omega (arith, x.burning_before)) one other (λ e. x.different (sym e));
      either_order =
          λ before one other x. same_by_set (other ∷ one ∷ before) (one ∷ other ∷ before) (same_set before (omega (arith, x.burning_before)) one other x.different);
      restored = λ before number E out. same_by_set (PutOut number ∷ Light number E ∷ before) before (out_again before number E out);
      can_be_put_out = can_be_put_out;
      unchanged = λ before c l. same_by_set (c ∷ before) before (λ n. set_refused before c n (called (after before) c).state l refl);
      same_pools = same_pools;
    }
