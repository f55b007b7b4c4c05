-- Pools that put it over, so that the claims are not of nothing: k pools are lit alike under the numbers 1 to k, and at a limit that m lows pass
-- and fewer do not, the pools 1 to m are given, in this order. For every accepted enquiry whose low is above 0, as the standard's is by
-- what is run (docs/OPERATIONS.md). From the claims. Assumes nothing.
use mathlib.Core.Path.{◌≡◌, refl, sym, ap, ◌∙◌}
use mathlib.Core.Bool.{true≢false}
use mathlib.Core.List.{List, [], ◌∷◌}
use Prim.Native.Nat.{ℕ, zero, suc, ◌-◌, ◌*◌, ◌≤◌, ◌<◌}
use native.Mathlib.Nat.{lt_of_not-le, suc-mul, lt_of_mul-lt-mul_right}
use native.Mathlib.Decide.{dec_le}
use native.Mathlib.Omega.{arith}
use lib.ListN.{length}
use Rattle.chain.specs.declared.enquiry.Enquiry.{Enquiry}
use Rattle.chain.specs.Flux.{flux_of}
use Rattle.register.specs.declared.sums.Totals.{Totals}
use Rattle.register.specs.Sums.{sums_of}
use Rattle.history.specs.History.{Call, after, is_lit, figure_of}
use Rattle.history.specs.OrderClaims.{set_after}
use Rattle.history.specs.WhichClaims.{Burning, low_after, total_of, nth, Explains, GoesBefore, listed_after}
use Rattle.history.proofs.Claims.{claims}
use Rattle.history.proofs.Total.{total_none, total_next}
use Rattle.history.proofs.Fewest.{Numbers, sum_different}
use Rattle.history.proofs.KnownPools.{burning_at}
use Rattle.history.proofs.WhichClaims.{which_claims}
use Rattle.history.proofs.Examples.{lights_of, Alight, alight}

-- The numbers from m down to 1.
down_from : ℕ → List ℕ
down_from zero = []
down_from (suc m) = suc m ∷ down_from m

long : (m : ℕ) → length (down_from m) ≡ m
unfolding down_from
long zero = refl
long (suc m) = ap suc (long m)

number_at : (m i : ℕ) → i < m → nth (down_from m) i ≡ m - i
unfolding down_from
number_at zero i l = absurd (omega arith)
number_at (suc m) zero l = omega arith
number_at (suc m) (suc i) l = omega (arith, number_at m i (omega arith))

different : (m : ℕ) → m ≤ 255 → Numbers 255 (down_from m)
different m most =
    record {
      least = λ i l. omega (arith, number_at m i (omega (arith, l, long m)), l, long m);
      most = λ i l. omega (arith, number_at m i (omega (arith, l, long m)));
      once = λ i j l h e. omega (arith, number_at m i (omega (arith, l, long m)), number_at m j (omega (arith, h, long m)), e, l, h, long m);
    }

-- The pools from 1 to m.
pub record OneTo (m : ℕ) (pools : List ℕ) : Type 0 where
  pub size : length pools ≡ m
  pub numbers : (i : ℕ) → i < m → nth pools i ≡ suc i

module _ (E : Enquiry) (accepted : (flux_of E).state ≡ 0) (k : ℕ) (few : k ≤ 32) where
  abbrev calls : List Call
  calls = lights_of E k

  abbrev L : ℕ
  L = (flux_of E).low

  lit_alike : Alight E accepted k
  lit_alike = alight E accepted k few

  lit : (n : ℕ) → 1 ≤ n → n ≤ k → Burning calls n
  lit n l h = ap is_lit (lit_alike.lit n l h)

  low : (n : ℕ) → Burning calls n → low_after calls n ≡ L
  low n b =
      let least = (burning_at calls n b).1.least in
      elim (dec_le n k) [
        | yes h ↦ ap (figure_of (λ F. (flux_of F).low)) (lit_alike.lit n least h)
        | no h ↦ absurd (true≢false (sym b ∙ ap is_lit (lit_alike.out n (lt_of_not-le h))))
      ]

  total_low : (ns : List ℕ) → ((i : ℕ) → i < length ns → Burning calls (nth ns i)) → total_of (low_after calls) ns ≡ length ns * L
  total_low [] b = omega (arith, total_none (low_after calls))
  total_low (n ∷ ns) b =
      let rest = total_low ns (λ i l. b (suc i) (omega arith)) in
      omega (arith, total_next (low_after calls) n ns, low n (b zero (omega arith)), rest, suc-mul (length ns) L)

  module _ (m limit : ℕ) (some : 1 ≤ m) (among : m ≤ k) (not_fewer : (m - 1) * L ≤ limit) (enough : limit < m * L) where
    abbrev ns : List ℕ
    ns = listed_after calls limit

    lit_down : (i : ℕ) → i < length (down_from m) → Burning calls (nth (down_from m) i)
    lit_down i l = lit (nth (down_from m) i) ((different m (omega arith)).least i l) (omega (arith, number_at m i (omega (arith, l, long m)), among))

    these : Explains calls limit (down_from m)
    these =
        record {
          burning = lit_down;
          once = (different m (omega arith)).once;
          lows_over = omega (arith, enough, total_low (down_from m) lit_down, ap (λ n. n * L) (long m));
        }

    over : limit < (sums_of (after calls)).lows
    over =
        let all = sum_different (λ F. (flux_of F).low) 255 (set_after calls) (down_from m) (different m (omega arith)) in
        omega (arith, these.lows_over, all, ap (λ (t : Totals). t.lows) (claims.sums calls))

    explained : Explains calls limit ns
    explained = which_claims.explains calls limit over

    size : length ns ≡ m
    size =
        let most = which_claims.fewest calls limit (down_from m) these in
        let less : (m - 1) * L < length ns * L = omega (arith, explained.lows_over, total_low ns explained.burning, not_fewer) in
        omega (arith, most, long m, lt_of_mul-lt-mul_right L less, some)

    -- Equal lows go by number.
    by_smaller_number : (n o : ℕ) → Burning calls n → Burning calls o → GoesBefore calls n o → n < o
    by_smaller_number n o b c g = g.smaller_number (low n b ∙ sym (low o c))

    rising : (i j : ℕ) → i < j → j < length ns → nth ns i < nth ns j
    rising i j l h = by_smaller_number (nth ns i) (nth ns j) (explained.burning i (omega arith)) (explained.burning j h) (which_claims.ranked calls limit i j l h)

    least : (i : ℕ) → i < length ns → suc i ≤ nth ns i
    least zero l = (burning_at calls (nth ns 0) (explained.burning 0 l)).1.least
    least (suc i) l = omega (arith, least i (omega arith), rising i (suc i) (omega arith) l)

    -- A smaller number than suc i stands before place i; so suc i is not left out.
    at_most : (i : ℕ) → i < length ns → ((j : ℕ) → j < i → nth ns j ≤ suc j) → nth ns i ≤ suc i
    at_most i h before =
        elim (dec_le (nth ns i) (suc i)) [
          | yes e ↦ e
          | no e ↦
              let here : Burning calls (suc i) = lit (suc i) (omega arith) (omega (arith, h, size, among)) in
              absurd (omega (arith, e, by_smaller_number (nth ns i) (suc i) (explained.burning i h) here (which_claims.left_out calls limit (suc i) here (not_listed (lt_of_not-le e)) i h)))
        ]
      where
        not_listed : suc i < nth ns i → (j : ℕ) → j < length ns → nth ns j ≡ suc i → ⊥
        not_listed more j l e =
            elim (dec_le i j) [
              | yes k ↦ elim (dec_le j i) [
                | yes g ↦ omega (arith, more, e, ap (nth ns) (same k g))
                | no g ↦ omega (arith, more, e, rising i j (lt_of_not-le g) l)
              ]
              | no k ↦ omega (arith, before j (lt_of_not-le k), e, lt_of_not-le k)
            ]
          where
            same : i ≤ j → j ≤ i → i ≡ j
            same k g = omega arith

    most : (n i : ℕ) → i < n → i < length ns → nth ns i ≤ suc i
    most zero i l h = absurd (omega arith)
    most (suc n) i l h = at_most i h (λ j g. most n j (omega arith) (omega arith))

    pub one_to : OneTo m ns
    one_to = record { size = size; numbers = λ i l. omega (arith, least i (omega (arith, l, size)), most (suc i) i (omega arith) (omega (arith, l, size))) }
