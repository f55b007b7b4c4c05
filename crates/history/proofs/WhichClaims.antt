-- What is claimed of the pools given. From the claims of the register, by the order of the pools and the last that goes in. Assumes nothing.
use mathlib.Core.Path.{◌≡◌, refl, sym, ap, subst, ◌∙◌}
use mathlib.Core.Option.{Option, none, some}
use mathlib.Core.List.{List, []}
use Prim.Native.Nat.{ℕ, suc, ◌+◌, ◌-◌, ◌*◌, ◌≤◌, ◌<◌}
use native.Mathlib.Nat.{lt_of_not-le, suc-mul, lt_of_mul-lt-mul_right}
use native.Mathlib.Decide.{dec_le}
use native.Mathlib.Omega.{arith}
use lib.ListN.{length, replicate, length-append, length-replicate, get_or-replicate, get_or-eq_default, get_or-append}
use lib.Seq.{take-append_seam, get_or-append-add}
use Rattle.chain.specs.declared.enquiry.Enquiry.{Enquiry}
use Rattle.chain.specs.Flux.{flux_of}
use Rattle.register.specs.declared.places.BurningPool.{BurningPool}
use Rattle.register.specs.declared.places.Register.{Register}
use Rattle.register.specs.declared.sums.Totals.{Totals}
use Rattle.register.specs.Sums.{sums_of}
use Rattle.which.specs.WhichPools.{FewestPools, in_order, until_over, in_32_places, which_of}
use Rattle.history.specs.History.{Call, after, figure_of}
use Rattle.history.specs.Claims.{Burns}
use Rattle.history.specs.OrderClaims.{set_after}
use Rattle.history.specs.WhichClaims.{Burning, low_after, total_of, nth, Explains, GoesBefore, listed, listed_after, WhichClaims}
use Rattle.register.proofs.ByNumber.{pool_at}
use Rattle.register.proofs.FirstPlace.{most_burn}
use Rattle.which.proofs.UntilOver.{not_over, is_over, by_answer}
use Rattle.history.proofs.Follows.{follows}
use Rattle.history.proofs.Claims.{claims, sum_afresh}
use Rattle.history.proofs.Total.{total_in_order, total_length}
use Rattle.history.proofs.Ranked.{Each, each_at, each_by_place, each_in_order, each_burning, each_map, Leads, ranked, ranked_at}
use Rattle.history.proofs.PoolsGiven.{until_at, until_among, until_sum, Last, last}
use Rattle.history.proofs.KnownPools.{Known, known, burning_at}
use Rattle.history.proofs.SamePools.{same_given}
use Rattle.history.proofs.Sets.{same_by_set}
use Rattle.history.proofs.Fewest.{same_figures, Numbers, sum_different, sum_above}

-- ---- the numbers in 32 places
module _ (state : ℕ) (ns : List ℕ) where
  pub listed_is : listed (in_32_places state ns) ≡ ns
  listed_is = take-append_seam ns (replicate (32 - length ns) 0)

  nth_in_places : (i : ℕ) → i < length ns → nth (in_32_places state ns).numbers i ≡ nth ns i
  nth_in_places i l = get_or-append ns (replicate (32 - length ns) 0) 0 i l

  all_places : length ns ≤ 32 → length (in_32_places state ns).numbers ≡ 32
  all_places l = omega (arith, l, length-append ns (replicate (32 - length ns) 0), length-replicate {A = ℕ} (32 - length ns) 0)

  zeros : (k i : ℕ) → nth (replicate k 0) i ≡ 0
  zeros k i =
      elim (dec_le k i) [
        | yes l ↦ get_or-eq_default (replicate k 0) 0 (omega (arith, length-replicate {A = ℕ} k 0))
        | no l ↦ get_or-replicate k i 0 0 (lt_of_not-le l)
      ]

  past_all : (i : ℕ) → length ns ≤ i → nth (in_32_places state ns).numbers i ≡ 0
  past_all i l =
      let rest : i ≡ length ns + (i - length ns) = omega arith in
      ap (nth (in_32_places state ns).numbers) rest ∙ get_or-append-add ns (replicate (32 - length ns) 0) (i - length ns) 0
      ∙ zeros (32 - length ns) (i - length ns)

-- ---- every register
module _ (R : Register) (limit : ℕ) where
  abbrev all_burning : List BurningPool
  all_burning = in_order R.places

  abbrev taken : List ℕ
  taken = until_over limit 0 all_burning

  thirty_two : length R.places ≡ 32 → length (which_of R limit).numbers ≡ 32
  thirty_two long =
      by_answer R limit (λ w. length w.numbers ≡ 32) (λ l. refl)
      (λ l. all_places 0 taken (omega (arith, until_among limit 0 all_burning, total_length all_burning, total_in_order (λ p. 1) R.places, most_burn R.places, long)))

  counted : (i : ℕ) → i < (which_of R limit).count → 1 ≤ nth (which_of R limit).numbers i
  counted i =
      by_answer R limit (λ w. i < w.count → 1 ≤ nth w.numbers i) (λ o l. absurd (omega arith))
      (λ o l.
      let least = each_at (λ p. 1 ≤ p.number) all_burning each_burns i (omega (arith, l, until_among limit 0 all_burning)) in
      omega (arith, nth_in_places 0 taken i l, until_at limit 0 all_burning i l, least))
    where
      each_burns : Each (λ p. 1 ≤ p.number) all_burning
      each_burns =
          each_in_order (λ p. 1 ≤ p.number) R.places
          (each_by_place (λ p. (p.number ≡ 0 → ⊥) → 1 ≤ p.number) R.places (λ i l e. omega (arith, e)))

-- ---- after a list of calls
leads_before : (calls : List Call) (p q : BurningPool) → Known calls p → Known calls q → Leads p q → GoesBefore calls p.number q.number
leads_before calls p q k m l =
    record {
      larger_low = omega (arith, k.low, m.low, l.low);
      smaller_number = λ e. l.number (sym k.low ∙ e ∙ m.low);
    }

-- A pool that is not in a list comes after each that is.
abbrev LeftOut : List Call → List ℕ → ℕ → Type 0
LeftOut calls ns number = ((i : ℕ) → i < length ns → nth ns i ≡ number → ⊥) → (i : ℕ) → i < length ns → GoesBefore calls (nth ns i) number

module _ (calls : List Call) where
  abbrev ps : List BurningPool
  ps = (after calls).places

  abbrev pools : List BurningPool
  pools = in_order ps

  known_at : (i : ℕ) → i < length pools → Known calls (pool_at pools i)
  known_at = each_at (Known calls) pools (known calls)

  leads_at : (i j : ℕ) → i < j → j < length pools → Leads (pool_at pools i) (pool_at pools j)
  leads_at = ranked_at pools (ranked ps (follows calls).sound)

  before_at : (i j : ℕ) → i < j → j < length pools → GoesBefore calls (pool_at pools i).number (pool_at pools j).number
  before_at i j l h =
      leads_before calls (pool_at pools i) (pool_at pools j) (known_at i (omega arith)) (known_at j h) (leads_at i j l h)

  module _ (limit : ℕ) where
    abbrev ns : List ℕ
    ns = until_over limit 0 pools

    among : (i : ℕ) → i < length ns → i < length pools
    among i l = omega (arith, l, until_among limit 0 pools)

    at : (i : ℕ) → i < length ns → nth ns i ≡ (pool_at pools i).number
    at = until_at limit 0 pools

    before : (i j : ℕ) → i < j → j < length ns → GoesBefore calls (nth ns i) (nth ns j)
    before i j l h =
        subst (GoesBefore calls (nth ns i)) (sym (at j h))
        (subst (λ n. GoesBefore calls n (pool_at pools j).number) (sym (at i (omega arith))) (before_at i j l (among j h)))

    total_over : limit < (sums_of (after calls)).lows → limit < 0 + total_of (λ p. p.low) pools
    total_over o = omega (arith, o, total_in_order (λ p. p.low) ps)

    explained : limit < (sums_of (after calls)).lows → Explains calls limit ns
    explained o =
        record {
          burning = λ i l. subst (Burning calls) (sym (at i l)) (known_at i (among i l)).burning;
          once = once;
          lows_over =
              let lows = each_map (Known calls) (λ p. low_after calls p.number ≡ p.low) (λ p k. k.low) pools (known calls) in
              omega (arith, until_sum limit (low_after calls) 0 pools lows (total_over o));
        }
      where
        apart : (i j : ℕ) → i < j → j < length ns → nth ns i ≡ nth ns j → ⊥
        apart i j l h e = omega (arith, (before i j l h).smaller_number (ap (low_after calls) e), e)

        once : (i j : ℕ) → i < length ns → j < length ns → nth ns i ≡ nth ns j → i ≡ j
        once i j l h e =
            elim (dec_le i j) [
              | yes k ↦ elim (dec_le j i) [ yes m ↦ omega arith | no m ↦ absurd (apart i j (lt_of_not-le m) h e) ]
              | no k ↦ absurd (apart j i (lt_of_not-le k) l (sym e))
            ]

    module _ (others : List ℕ) (x : Explains calls limit others) (o : limit < (sums_of (after calls)).lows) where
      numbers : Numbers 255 others
      numbers =
          record {
            least = λ i l. (burning_at calls (nth others i) (x.burning i l)).1.least;
            most = λ i l. most i (burning_at calls (nth others i) (x.burning i l)).1;
            once = x.once;
          }
        where
          most : (i : ℕ) → {E : Enquiry} → Burns (after calls) (nth others i) E → nth others i ≤ 255
          most i b =
              omega (arith, b.number_there, (claims.as_lit calls b.place b.there (omega (arith, b.number_there, b.least))).most)

      -- What the lows of the others have above t is at most what all lows have.
      above : (t : ℕ) → total_of (λ n. low_after calls n - t) others ≤ total_of (λ p. p.low - t) pools
      above t =
          let all = sum_afresh calls (λ p. p.low - t) (λ E. (flux_of E).low - t) (λ p a. ap (λ l. l - t) a.low) in
          let same = same_figures (λ n. low_after calls n - t) (λ n. figure_of (λ E. (flux_of E).low - t) (set_after calls n)) others (λ i l. each (set_after calls (nth others i))) in
          omega (arith, same, sum_different (λ E. (flux_of E).low - t) 255 (set_after calls) others numbers, all, total_in_order (λ p. p.low - t) ps)
        where
          each : (o : Option Enquiry) → figure_of (λ E. (flux_of E).low) o - t ≡ figure_of (λ E. (flux_of E).low - t) o
          each none = omega arith
          each (some E) = refl

      no_fewer : length ns ≤ length others
      no_fewer =
          let a : Last limit 0 pools (length ns) = last limit 0 pools (ranked ps (follows calls).sound) (omega arith) (total_over o) in
          let t = a.t in
          let less : length ns * t < suc (length others) * t =
          omega (arith, a.fits, x.lows_over, sum_above (low_after calls) t others, above t, suc-mul (length others) t) in
          omega (arith, lt_of_mul-lt-mul_right t less)

    left_out : (number : ℕ) → Burning calls number → LeftOut calls ns number
    left_out number b =
        let there = (burning_at calls number b).1 in
        let here = each_at (λ p. (p.number ≡ 0 → ⊥) → LeftOut calls ns p.number) ps each there.place (omega (arith, there.there, claims.places calls)) in
        subst (LeftOut calls ns) there.number_there (here (λ z. omega (arith, z, there.number_there, there.least)))
      where
        at_place : (j : ℕ) → j < length pools → LeftOut calls ns (pool_at pools j).number
        at_place j h out i l =
            elim (dec_le (length ns) j) [
              | yes k ↦ subst (λ n. GoesBefore calls n (pool_at pools j).number) (sym (at i l)) (before_at i j (omega arith) h)
              | no k ↦ absurd (out j (lt_of_not-le k) (at j (lt_of_not-le k)))
            ]

        each : Each (λ p. (p.number ≡ 0 → ⊥) → LeftOut calls ns p.number) ps
        each = each_burning (λ p. LeftOut calls ns p.number) ps (each_by_place (λ p. LeftOut calls ns p.number) pools at_place)

    -- The set given is empty, or these.
    by_given : (P : List ℕ → Type 0) → P [] → (limit < (sums_of (after calls)).lows → P ns) → P (listed_after calls limit)
    by_given P refused these =
        by_answer (after calls) limit (λ w. P (listed w)) (λ l. refused) (λ o. subst P (sym (listed_is 0 ns)) (these o))

same_answer :
    (these those : List Call) (limit : ℕ) → ((n : ℕ) → set_after these n ≡ set_after those n) → which_of (after these) limit ≡ which_of (after those) limit
same_answer these those limit same =
    let lows = ap (λ (t : Totals). t.lows) (same_by_set these those same).sums in
    elim (dec_le (sums_of (after these)).lows limit) [
      | yes l ↦ not_over (after these) limit l ∙ sym (not_over (after those) limit (omega (arith, l, lows)))
      | no l ↦
          is_over (after these) limit (lt_of_not-le l) ∙ ap (in_32_places 0) (same_given these those same limit)
          ∙ sym (is_over (after those) limit (omega (arith, l, lows)))
    ]

pub which_claims : WhichClaims
which_claims =
    record {
      explains =
          λ calls limit o.
          subst (λ w. Explains calls limit (listed w)) (sym (is_over (after calls) limit o))
          (subst (Explains calls limit) (sym (listed_is 0 (ns calls limit))) (explained calls limit o));
      fewest = λ calls limit others x. by_given calls limit (λ l. length l ≤ length others) (omega arith) (no_fewer calls limit others x);
      ranked =
          λ calls limit i j l.
          by_given calls limit (λ ns. j < length ns → GoesBefore calls (nth ns i) (nth ns j)) (λ h. absurd (omega arith)) (λ o. before calls limit i j l);
      left_out =
          λ calls limit number b.
          by_given calls limit (λ ns. LeftOut calls ns number) (λ out i l. absurd (omega arith)) (λ o. left_out calls limit number b);
      same_answer = same_answer;
      not_over = λ R limit l. ap (λ (w : FewestPools). w.state) (not_over R limit l);
      when_over = λ R limit l. ap (λ (w : FewestPools). w.state) (is_over R limit l);
      empty_set = λ R limit. by_answer R limit (λ w. w.state ≡ 55 → w.count ≡ 0) (λ l e. refl) (λ l e. absurd (omega (arith, e)));
      counted = counted;
      past_the_count =
          λ R limit i.
          by_answer R limit (λ w. w.count ≤ i → nth w.numbers i ≡ 0) (λ l. past_all 55 [] i)
          (λ l. past_all 0 (until_over limit 0 (in_order R.places)) i);
      thirty_two = thirty_two;
      size =
          λ R limit.
          by_answer R limit (λ w. length (listed w) ≡ w.count) (λ l. refl)
          (λ l. ap length (listed_is 0 (until_over limit 0 (in_order R.places))));
    }
