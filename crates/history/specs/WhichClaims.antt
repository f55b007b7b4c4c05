-- Request 12: what is claimed of the pools given, for every limit: after every list of calls from the empty register, and where that is said,
-- of every register. Which pools burn, and their lows, come from the calls and what each was answered, not from the register's places.
use Rattle.std.specs.Prelude.{ℕ, ◌+◌, ◌≤◌, ◌<◌, ◌≡◌, true, List, [], ◌∷◌, length, get_or, take}
use Rattle.chain.specs.Flux.{flux_of}
use Rattle.register.specs.declared.places.Register.{Register}
use Rattle.register.specs.Sums.{sums_of}
use Rattle.history.specs.History.{Call, after, is_lit, figure_of}
use Rattle.history.specs.OrderClaims.{set_after}
use Rattle.which.specs.WhichPools.{FewestPools, which_of}

-- A pool burns; and the low of its flux, 0 where it is out.
abbrev pub Burning : List Call → ℕ → Type 0
Burning calls number = is_lit (set_after calls number) ≡ true

abbrev pub low_after : List Call → ℕ → ℕ
low_after calls number = figure_of (λ E. (flux_of E).low) (set_after calls number)

-- A figure of each entry of a list, summed.
unfoldable pub total_of : {A : Type 0} → (A → ℕ) → List A → ℕ
total_of figure [] = 0
total_of figure (n ∷ ns) = figure n + total_of figure ns

-- The number at a place of a list of pools.
abbrev pub nth : List ℕ → ℕ → ℕ
nth pools i = get_or pools i 0

-- "a set of burning pools whose lows alone sum to more than the limit": a list in which no pool stands twice.
pub record Explains (calls : List Call) (limit : ℕ) (pools : List ℕ) : Type 0 where
  pub burning : (i : ℕ) → i < length pools → Burning calls (nth pools i)
  pub once : (i j : ℕ) → i < length pools → j < length pools → nth pools i ≡ nth pools j → i ≡ j
  pub lows_over : limit < total_of (low_after calls) pools

-- "Larger lows go in first, equal lows by smaller number"
pub record GoesBefore (calls : List Call) (one other : ℕ) : Type 0 where
  pub larger_low : low_after calls other ≤ low_after calls one
  pub smaller_number : low_after calls one ≡ low_after calls other → one < other

-- The set given: as many of the numbers as the count says; and the set given after a list of calls.
abbrev pub listed : FewestPools → List ℕ
listed w = take w.count w.numbers

abbrev pub listed_after : List Call → ℕ → List ℕ
listed_after calls limit = listed (which_of (after calls) limit)

-- All that is claimed.
pub record WhichClaims : Type 0 where
  -- "Give a set of burning pools whose lows alone sum to more than the limit": wherever all lows do
  pub explains : (calls : List Call) (limit : ℕ) → limit < (sums_of (after calls)).lows → Explains calls limit (listed_after calls limit)
  -- "every other set of burning pools whose lows do so has at least as many"
  pub fewest : (calls : List Call) (limit : ℕ) (others : List ℕ) → Explains calls limit others → length (listed_after calls limit) ≤ length others
  -- "Larger lows go in first, equal lows by smaller number, and the list keeps that order.": also before every burning pool that is left out
  pub ranked :
      (calls : List Call) (limit i j : ℕ) → i < j → j < length (listed_after calls limit)
      → GoesBefore calls (nth (listed_after calls limit) i) (nth (listed_after calls limit) j)
  pub left_out :
      (calls : List Call) (limit number : ℕ) → Burning calls number
      → ((i : ℕ) → i < length (listed_after calls limit) → nth (listed_after calls limit) i ≡ number → ⊥)
      → (i : ℕ) → i < length (listed_after calls limit) → GoesBefore calls (nth (listed_after calls limit) i) number
  -- Where the same pools burn with the same enquiries, the answer is the same, in whatever order they were lit.
  pub same_answer :
      (these those : List Call) (limit : ℕ) → ((number : ℕ) → set_after these number ≡ set_after those number)
      → which_of (after these) limit ≡ which_of (after those) limit
  -- "55, the sum of lows is not over the limit, given exactly then, with an empty set": every register, also one that no call makes
  pub not_over : (R : Register) (limit : ℕ) → (sums_of R).lows ≤ limit → (which_of R limit).state ≡ 55
  pub when_over : (R : Register) (limit : ℕ) → limit < (sums_of R).lows → (which_of R limit).state ≡ 0
  pub empty_set : (R : Register) (limit : ℕ) → (which_of R limit).state ≡ 55 → (which_of R limit).count ≡ 0
  -- "The count shown is the size of the set given.": a number from 1 on at each place before the count, 0 at each from it on; every register,
  -- and 32 such places for one that has 32
  pub counted : (R : Register) (limit i : ℕ) → i < (which_of R limit).count → 1 ≤ nth (which_of R limit).numbers i
  pub past_the_count : (R : Register) (limit i : ℕ) → (which_of R limit).count ≤ i → nth (which_of R limit).numbers i ≡ 0
  pub thirty_two : (R : Register) (limit : ℕ) → length R.places ≡ 32 → length (which_of R limit).numbers ≡ 32
  pub size : (R : Register) (limit : ℕ) → length (listed (which_of R limit)) ≡ (which_of R limit).count
