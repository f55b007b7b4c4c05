-- The claims of the code: `empty`, and after it every register that `light` and `put_out` leave, is that of the list of calls, so what is
-- claimed holds of it; and what `sums` returns of it is worked afresh. Two calls leave the same set and sums in either order; a pool lit and
-- put out again, those of before. The pools that `which_pools` returns are the fewest that put it over. From the contracts, which are the
-- premises. Assumes nothing.
use Rattle.std.specs.Prelude.{Result, Ok, Err}
use mathlib.Core.Path.{◌≡◌, refl, sym, ap, subst, ◌∙◌}
use mathlib.Core.Option.{Option, none, some}
use mathlib.Core.List.{List, [], ◌∷◌}
use Prim.Native.Nat.{ℕ, ◌≤◌, ◌<◌}
use native.Mathlib.Omega.{arith}
use lib.ListN.{length}
use Rattle.chain.specs.declared.enquiry.Enquiry.{Enquiry}
use Rattle.register.specs.declared.places.Register.{Register}
use Rattle.register.specs.declared.calls.CallRefusal.{CallRefusal}
use Rattle.register.specs.declared.sums.Totals.{Totals}
use Rattle.register.specs.Places.{no_pools}
use Rattle.register.specs.Sums.{sums_of}
use Rattle.register.specs.Calls.{Shown, state_of, shown}
use Rattle.which.specs.declared.which_pools.FewestPools.{FewestPools as PoolsGiven}
use Rattle.which.specs.declared.which_pools.NotOver.{NotOver}
use Rattle.which.specs.WhichPools as which
use Rattle.which.specs.WhichPools.{FewestPools, which_of}
use Rattle.history.specs.History.{Call, Light, PutOut, called, after, history, afresh, due}
use Rattle.history.specs.Claims.{Burns}
use Rattle.history.specs.OrderClaims.{set_after, SameSetAndSums, SamePoolsAndSums, Crossing}
use Rattle.history.specs.WhichClaims.{Burning, nth, Explains, GoesBefore, listed}
use Rattle.history.proofs.Claims.{claims}
use Rattle.history.proofs.OrderClaims.{order_claims}
use Rattle.history.proofs.WhichClaims.{which_claims}

-- r is what `empty` returns
pub returned_empty : (r : Register) → r ≡ no_pools → r ≡ after []
unfolding after
returned_empty r e = e

module _ (calls : List Call) (r : Register) (reached : r ≡ after calls) where
  -- a is what `light` or `put_out` returns, and s the register that it leaves
  module _ (a : Result Unit CallRefusal) (s : Register) where
    pub returned_register : (call : Call) → shown a s ≡ called r call → s ≡ after (call ∷ calls)
    unfolding after
    returned_register call e = ap (λ (c : Shown). c.register) (e ∙ ap (λ R. called R call) reached)

    shown_state : (call : Call) → shown a s ≡ called r call → state_of a ≡ (called (after calls) call).state
    shown_state call e = ap (λ (c : Shown). c.state) (e ∙ ap (λ R. called R call) reached)

    pub returned_state : (call : Call) → shown a s ≡ called r call → state_of a ≡ due (history calls) call
    returned_state call e = shown_state call e ∙ claims.answered calls call

  -- t is what `sums` returns
  pub returned_sums : (t : Totals) → t ≡ sums_of r → t ≡ afresh (history calls)
  returned_sums t e = e ∙ ap sums_of reached ∙ claims.sums calls

-- a is what `light` or `put_out` returns at any register, and s what it leaves
pub returned_kept :
    (r : Register) (a : Result Unit CallRefusal) (s : Register) (call : Call) → shown a s ≡ called r call → 1 ≤ state_of a → s ≡ r
returned_kept r a s call e l = ap (λ (c : Shown). c.register) e ∙ claims.kept r call (subst (λ (c : Shown). 1 ≤ c.state) e l)

-- t and u are what `sums` returns of two registers
pub returned_same_sums : (r s : Register) → SamePoolsAndSums r s → (t u : Totals) → t ≡ sums_of r → u ≡ sums_of s → t ≡ u
returned_same_sums r s same t u e f = e ∙ same.sums ∙ sym f

-- ---- two calls in a row
-- What `light` or `put_out` returns and leaves of a register, and then of the one that it left.
pub record OneThenOther (r : Register) (one other : Call) : Type 0 where
  pub first : Result Unit CallRefusal
  pub between : Register
  pub second : Result Unit CallRefusal
  pub last : Register
  pub first_is : shown first between ≡ called r one
  pub second_is : shown second last ≡ called between other

module _ (calls : List Call) (r : Register) (reached : r ≡ after calls) where
  module _ {one other : Call} (c : OneThenOther r one other) where
    first_state : state_of c.first ≡ (called (after calls) one).state
    first_state = shown_state calls r reached c.first c.between one c.first_is

    first_register : c.between ≡ after (one ∷ calls)
    first_register = returned_register calls r reached c.first c.between one c.first_is

    second_state : state_of c.second ≡ (called (after (one ∷ calls)) other).state
    second_state = shown_state (one ∷ calls) c.between first_register c.second c.last other c.second_is

    second_register : c.last ≡ after (other ∷ one ∷ calls)
    second_register = returned_register (one ∷ calls) c.between first_register c.second c.last other c.second_is

  same_pools_returned :
      {one other : Call} (c : OneThenOther r one other) (those : List Call) (s : Register) → s ≡ after those → SameSetAndSums (other ∷ one ∷ calls) those
      → SamePoolsAndSums c.last s
  same_pools_returned {one} {other} c those s e same =
      subst (SamePoolsAndSums c.last) (sym e)
      (subst (λ R. SamePoolsAndSums R (after those)) (sym (second_register c)) (order_claims.same_pools (other ∷ one ∷ calls) those same))

  module _ (one other : Call) (x : Crossing calls one other) (c : OneThenOther r one other) (d : OneThenOther r other one) where
    pub returned_alike : state_of d.second ≡ state_of c.first
    returned_alike = second_state d ∙ order_claims.answered_alike calls one other x ∙ sym (first_state c)

    pub returned_either_order : SamePoolsAndSums c.last d.last
    returned_either_order =
        same_pools_returned c (one ∷ other ∷ calls) d.last (second_register d) (order_claims.either_order calls one other x)

  pub returned_can_be_put_out :
      (number : ℕ) (E : Enquiry) (c : OneThenOther r (Light number E) (PutOut number)) → state_of c.first ≡ 0 → state_of c.second ≡ 0
  returned_can_be_put_out number E c e = second_state c ∙ order_claims.can_be_put_out calls number E (sym (first_state c) ∙ e)

  pub returned_restored :
      (number : ℕ) (E : Enquiry) → ((F : Enquiry) → Burns r number F → ⊥) → (c : OneThenOther r (Light number E) (PutOut number))
      → SamePoolsAndSums c.last r
  returned_restored number E out c = same_pools_returned c calls r reached (order_claims.restored calls number E (by_pool (set_after calls number) refl))
    where
      by_pool : (p : Option Enquiry) → set_after calls number ≡ p → set_after calls number ≡ none
      by_pool none e = e
      by_pool (some F) e = absurd (out F (subst (λ R. Burns R number F) (sym reached) (claims.lit calls number F e)))

-- ---- which pools put it over
-- p is what `which_pools` returns, and w what it shows
module _ (r : Register) (limit : ℕ) (p : Result PoolsGiven NotOver) (is : which.shown p ≡ which_of r limit) where
  abbrev pub w : FewestPools
  w = which.shown p

  -- of any register; t is what `sums` returns
  module _ (t : Totals) (e : t ≡ sums_of r) where
    pub returned_when_over : limit < t.lows → w.state ≡ 0
    returned_when_over over = ap (λ (v : FewestPools). v.state) is ∙ which_claims.when_over r limit (subst (λ (u : Totals). limit < u.lows) e over)

    pub returned_not_over : t.lows ≤ limit → w.state ≡ 55
    returned_not_over under = ap (λ (v : FewestPools). v.state) is ∙ which_claims.not_over r limit (subst (λ (u : Totals). u.lows ≤ limit) e under)

  pub returned_empty_set : w.state ≡ 55 → w.count ≡ 0
  returned_empty_set = subst (λ (v : FewestPools). v.state ≡ 55 → v.count ≡ 0) (sym is) (which_claims.empty_set r limit)

  pub returned_counted : (i : ℕ) → i < w.count → 1 ≤ nth w.numbers i
  returned_counted i = subst (λ (v : FewestPools). i < v.count → 1 ≤ nth v.numbers i) (sym is) (which_claims.counted r limit i)

  pub returned_past_the_count : (i : ℕ) → w.count ≤ i → nth w.numbers i ≡ 0
  returned_past_the_count i = subst (λ (v : FewestPools). v.count ≤ i → nth v.numbers i ≡ 0) (sym is) (which_claims.past_the_count r limit i)

  pub returned_thirty_two : length r.places ≡ 32 → length w.numbers ≡ 32
  returned_thirty_two long = ap (λ (v : FewestPools). length v.numbers) is ∙ which_claims.thirty_two r limit long

  pub returned_size : length (listed w) ≡ w.count
  returned_size = subst (λ v. length (listed v) ≡ v.count) (sym is) (which_claims.size r limit)

  -- of the register after the calls
  module _ (calls : List Call) (reached : r ≡ after calls) where
    after_calls : w ≡ which_of (after calls) limit
    after_calls = is ∙ ap (λ R. which_of R limit) reached

    pub returned_explains : (t : Totals) → t ≡ sums_of r → limit < t.lows → Explains calls limit (listed w)
    returned_explains t e over =
        subst (λ v. Explains calls limit (listed v)) (sym after_calls)
        (which_claims.explains calls limit (subst (λ (u : Totals). limit < u.lows) (e ∙ ap sums_of reached) over))

    pub returned_fewest : (others : List ℕ) → Explains calls limit others → length (listed w) ≤ length others
    returned_fewest others x = subst (λ v. length (listed v) ≤ length others) (sym after_calls) (which_claims.fewest calls limit others x)

    pub returned_ranked : (i j : ℕ) → i < j → j < length (listed w) → GoesBefore calls (nth (listed w) i) (nth (listed w) j)
    returned_ranked i j l =
        subst (λ v. j < length (listed v) → GoesBefore calls (nth (listed v) i) (nth (listed v) j)) (sym after_calls) (which_claims.ranked calls limit i j l)

    pub returned_left_out :
        (number : ℕ) → Burning calls number → ((i : ℕ) → i < length (listed w) → nth (listed w) i ≡ number → ⊥)
        → (i : ℕ) → i < length (listed w) → GoesBefore calls (nth (listed w) i) number
    returned_left_out number b =
        subst
        (λ v. ((i : ℕ) → i < length (listed v) → nth (listed v) i ≡ number → ⊥) → (i : ℕ) → i < length (listed v) → GoesBefore calls (nth (listed v) i) number)
        (sym after_calls) (which_claims.left_out calls limit number b)

-- What two answers show is the same only where they are the same.
shows_itself : (p q : Result PoolsGiven NotOver) → which.shown p ≡ which.shown q → p ≡ q
shows_itself (Ok p) (Ok q) e = ap (λ (w : FewestPools). Ok (record { count = w.count; numbers = w.numbers })) e
shows_itself (Ok p) (Err _) e = absurd (omega (arith, ap (λ (w : FewestPools). w.state) e))
shows_itself (Err _) (Ok q) e = absurd (omega (arith, ap (λ (w : FewestPools). w.state) e))
shows_itself (Err _) (Err _) e = refl

-- p and q are what `which_pools` returns of two registers in which the same pools burn
pub returned_same_answer :
    (these those : List Call) → ((number : ℕ) → set_after these number ≡ set_after those number) → (r s : Register) → r ≡ after these → s ≡ after those
    → (limit : ℕ) (p q : Result PoolsGiven NotOver) → which.shown p ≡ which_of r limit → which.shown q ≡ which_of s limit → p ≡ q
returned_same_answer these those same r s reached reached_too limit p q is is_too =
    shows_itself p q
    (is ∙ ap (λ R. which_of R limit) reached ∙ which_claims.same_answer these those limit same ∙ sym (is_too ∙ ap (λ R. which_of R limit) reached_too))
