-- Reading section by section: what a passed section tells, what its count or fault leads to, and what an accepted sheet is.
-- By the outcome of each test in turn. Assumes nothing.
use mathlib.Core.Path.{◌≡◌, refl, sym, ap, ◌∙◌, fun_ext}
use mathlib.Core.Bool.{Bool, true, false, ◌||◌, or_comm, or-false, false≢true}
use mathlib.Core.List.{List, [], ◌∷◌, ◌++◌}
use Prim.Native.Nat.{ℕ, zero, suc, ◌+◌, ◌*◌, ◌≤◌, ◌<◌}
use native.Mathlib.Decide.{dec_lt}
use native.Mathlib.Nat.{add-zero, zero-add}
use native.Mathlib.Omega.{arith}
use lib.ListN.{length}
use Rattle.std.specs.Prelude.{Result, Ok, Err}
use Rattle.std.specs.List.{list_any, range_with_len}
use Rattle.std.proofs.lemmas.List.Folds.{list_any-append}
use lib.Dec.{leb, ltb}
use borrow.Author.Tests.{ltb-false, leb-false, lt-ltb, le-ltb}
use Rattle.pairs.specs.Figures.{refuse}
use Rattle.pairs.proofs.Tests.{past_test}
use Rattle.sheet.specs.declared.reading.Fault.{Fault}
use Rattle.sheet.specs.declared.reading.Fault.TheVariants.{CutShort, TooMany, LeftOver, NoFuel, NoPool}
use Rattle.sheet.specs.Layout.{count_size, fuel_size, most_fuels, pool_size, most_pools, target_size, most_targets, fuel_index_offset, pools_start, targets_start, sheet_end}
use Rattle.sheet.specs.Bytes.{two}
use Rattle.sheet.specs.Reading as reading
use Rattle.sheet.specs.Reading.{Sound, Outcome, refused, number_of, fuels_of, pools_of, targets_of, fuel_index, pool_index, some, no_fuel, no_pool, after_sections, from_targets, from_pools, reading_of}
use Rattle.sheet.specs.Private.{choose, section_of, Holding, stray}

-- A test of the numbers below n: one passes, or none does.
neither : (a b : Bool) → (a || b) ≡ false → (a ≡ false) × (b ≡ false)
neither true b e = absurd (false≢true (sym e))
neither false b e = (refl, e)

pub some_false : (f : ℕ → Bool) (n : ℕ) → some f n ≡ false → (i : ℕ) → i < n → f i ≡ false
unfolding some
some_false f zero e i h = absurd (omega arith)
some_false f (suc n) e i h =
    elim (dec_lt i n) [
      | yes l ↦ some_false f n (neither (f n) (some f n) e).1 i l
      | no l ↦ ap f (omega arith) ∙ (neither (f n) (some f n) e).0
    ]

pub some_same : (f g : ℕ → Bool) (n : ℕ) → ((i : ℕ) → f i ≡ g i) → some f n ≡ some g n
some_same f g n h = ap (λ (t : ℕ → Bool). some t n) (fun_ext h)

-- `any` over the numbers below n.
range_more : (a n : ℕ) → range_with_len a (suc n) ≡ range_with_len a n ++ ((a + n) ∷ [])
range_more a zero = ap (λ (k : ℕ). k ∷ []) (sym (add-zero a))
range_more a (suc n) = ap (λ (x : List ℕ). a ∷ x) (range_more (a + 1) n ∙ ap (λ (k : ℕ). range_with_len (a + 1) n ++ (k ∷ [])) (omega arith))

pub any_below : (f : ℕ → Bool) (n : ℕ) → list_any f (range_with_len 0 n) ≡ some f n
unfolding some
any_below f zero = refl
any_below f (suc n) =
    ap (list_any f) (range_more 0 n)
    ∙ list_any-append f (range_with_len 0 n) ((0 + n) ∷ [])
    ∙ rw (any_below f n, zero-add n, or-false (f n)) (or_comm (some f n) (f n))

-- What a section's count or fault leads to.
abbrev pub continued : Result ℕ Fault → Outcome → Outcome
continued (Ok n) o = o
continued (Err why) o = refused (number_of why)

by_tests :
    (a b c : Bool) (n : ℕ) (o : Outcome)
    → refuse a (refused 1) (refuse b (refused 2) (refuse c (refused 1) o)) ≡ continued (choose a (Err CutShort) (choose b (Err TooMany) (choose c (Err CutShort) (Ok n)))) o
by_tests true b c n o = refl
by_tests false true c n o = refl
by_tests false false true n o = refl
by_tests false false false n o = refl

pub continues : (s : List ℕ) (start size most : ℕ) (o : Outcome) → reading.section s start size most o ≡ continued (section_of s start size most) o
unfolding reading.section section_of
continues s start size most o =
    by_tests (ltb (length s) (start + count_size)) (ltb most (two s start)) (ltb (length s) (start + count_size + size * two s start)) (two s start) o

pub section_refused :
    (s : List ℕ) (start size most : ℕ) (why : Fault) (o : Outcome) → section_of s start size most ≡ Err why
    → refused (number_of why) ≡ reading.section s start size most o
section_refused s start size most why o e = sym (continues s start size most o ∙ ap (λ (x : Result ℕ Fault). continued x o) e)

pub section_held : (s : List ℕ) (start size most n : ℕ) (o : Outcome) → section_of s start size most ≡ Ok n → o ≡ reading.section s start size most o
section_held s start size most n o e = sym (continues s start size most o ∙ ap (λ (x : Result ℕ Fault). continued x o) e)

-- A test that was passed on the way to state 0.
passed : (b : Bool) (k : ℕ) (x o : Outcome) → refuse b (refused (suc k)) x ≡ o → o.state ≡ 0 → (b ≡ false) × (x ≡ o)
passed b k x o e z = past_test (λ (y : Outcome). y ≡ o) b (λ _ w. let n : suc k ≡ o.state = ap (λ (y : Outcome). y.state) w in omega arith) e

section_passed :
    (s : List ℕ) (start size most : ℕ) (rest o : Outcome) → reading.section s start size most rest ≡ o → o.state ≡ 0
    → (two s start ≤ most) × (start + count_size + size * two s start ≤ length s) × (rest ≡ o)
unfolding reading.section
section_passed s start size most rest o e z =
    let p = passed (ltb (length s) (start + count_size)) 0 _ o e z in
    let q = passed (ltb most (two s start)) 1 _ o p.1 z in
    let r = passed (ltb (length s) (start + count_size + size * two s start)) 0 rest o q.1 z in
    (ltb-false _ _ q.0, ltb-false _ _ r.0, r.1)

-- An accepted sheet: the counts are those in the bytes, the bytes end with the last target, and every index has its record.
pub sound : (s : List ℕ) (o : Outcome) → reading_of s ≡ o → o.state ≡ 0 → Sound s o.fuels o.pools o.targets
unfolding reading_of from_pools from_targets after_sections fuels_of pools_of targets_of no_fuel no_pool
sound s o e z =
    let a = section_passed s 0 fuel_size most_fuels (from_pools s) o e z in
    let b = section_passed s (pools_start (fuels_of s)) pool_size most_pools (from_targets s) o a.2 z in
    let d = section_passed s (targets_start (fuels_of s) (pools_of s)) target_size most_targets (after_sections s) o b.2 z in
    let p = passed (ltb (sheet_end (fuels_of s) (pools_of s) (targets_of s)) (length s)) 2 _ o d.2 z in
    let q = passed (no_fuel s) 3 _ o p.1 z in
    let r = passed (no_pool s) 4 _ o q.1 z in
    let f = ap (λ (x : Outcome). x.fuels) r.1 in
    let g = ap (λ (x : Outcome). x.pools) r.1 in
    let t = ap (λ (x : Outcome). x.targets) r.1 in
    record {
      fuels_are = sym f;
      pools_are = sym g;
      targets_are = sym t;
      few = rw (← t) d.0;
      whole = rw (← f, ← g, ← t) (omega (arith, d.1, ltb-false (sheet_end (fuels_of s) (pools_of s) (targets_of s)) (length s) p.0));
      fuel_there = rw (← f, ← g) (λ i h. leb-false (fuels_of s) (fuel_index s i) (some_false (λ j. leb (fuels_of s) (fuel_index s j)) (pools_of s) q.0 i h));
      pool_there = rw (← g, ← t) (λ i h. leb-false (pools_of s) (pool_index s i) (some_false (λ j. leb (pools_of s) (pool_index s j)) (targets_of s) r.0 i h));
    }

-- A fault's number is not 0.
pub by_number : (P : ℕ → Type 0) → ((k : ℕ) → P (suc k)) → (why : Fault) → P (number_of why)
by_number P h CutShort = h 0
by_number P h TooMany = h 1
by_number P h LeftOver = h 2
by_number P h NoFuel = h 3
by_number P h NoPool = h 4

-- A refused sheet has no target, and no sheet has more than the most.
by_test : (P : Outcome → Type 0) (b : Bool) {x y : Outcome} → P x → P y → P (refuse b x y)
by_test P true h k = h
by_test P false h k = k

abbrev None : Outcome → Type 0
None o = (n : ℕ) → o.state ≡ suc n → o.targets ≡ 0

section_none : (s : List ℕ) (start size most : ℕ) (rest : Outcome) → None rest → None (reading.section s start size most rest)
unfolding reading.section
section_none s start size most rest h =
    by_test None (ltb (length s) (start + count_size)) (λ n e. refl)
    (by_test None (ltb most (two s start)) (λ n e. refl)
    (by_test None (ltb (length s) (start + count_size + size * two s start)) (λ n e. refl) h))

pub refused_none : (s : List ℕ) → None (reading_of s)
unfolding reading_of from_pools from_targets after_sections
refused_none s =
    section_none s 0 fuel_size most_fuels (from_pools s)
    (section_none s (pools_start (fuels_of s)) pool_size most_pools (from_targets s)
    (section_none s (targets_start (fuels_of s) (pools_of s)) target_size most_targets (after_sections s)
    (by_test None (ltb (sheet_end (fuels_of s) (pools_of s) (targets_of s)) (length s)) (λ n e. refl)
    (by_test None (no_fuel s) (λ n e. refl) (by_test None (no_pool s) (λ n e. refl) (λ n e. absurd (omega arith)))))))

pub few_targets : (s : List ℕ) → (reading_of s).targets ≤ most_targets
few_targets s = by_state (reading_of s).state refl
  where
    by_state : (n : ℕ) → (reading_of s).state ≡ n → (reading_of s).targets ≤ most_targets
    by_state zero e = (sound s (reading_of s) refl e).few
    by_state (suc n) e = rw (refused_none s n e) (omega arith)

-- What follows the three sections, test by test, of the counts that the bytes hold.
module _ (s : List ℕ) (f p t : ℕ) (fuels_are : f ≡ fuels_of s) (pools_are : p ≡ pools_of s) (targets_are : t ≡ targets_of s) where
  fuels_tested : stray s (pools_start f + count_size + fuel_index_offset) pool_size p f ≡ no_fuel s
  unfolding stray no_fuel fuel_index
  fuels_tested = rw (fuels_are, pools_are) (some_same _ _ (pools_of s) (λ i. ap (λ (k : ℕ). leb (fuels_of s) (two s k)) (omega arith)))

  pools_tested : stray s (targets_start f p + count_size) target_size t p ≡ no_pool s
  unfolding stray no_pool pool_index
  pools_tested = rw (fuels_are, pools_are, targets_are)

  pub left_over : sheet_end f p t < length s → refused 3 ≡ after_sections s
  unfolding after_sections
  left_over h = simp (lt-ltb _ _ (rw (fuels_are, pools_are, targets_are) at h))

  pub fuel_missing : length s ≤ sheet_end f p t → stray s (pools_start f + count_size + fuel_index_offset) pool_size p f ≡ true → refused 4 ≡ after_sections s
  unfolding after_sections
  fuel_missing h e = simp (le-ltb _ _ (rw (fuels_are, pools_are, targets_are) at h), sym fuels_tested ∙ e)

  pub pool_missing :
      length s ≤ sheet_end f p t → stray s (pools_start f + count_size + fuel_index_offset) pool_size p f ≡ false
      → stray s (targets_start f p + count_size) target_size t p ≡ true → refused 5 ≡ after_sections s
  unfolding after_sections
  pool_missing h e g = simp (le-ltb _ _ (rw (fuels_are, pools_are, targets_are) at h), sym fuels_tested ∙ e, sym pools_tested ∙ g)

  pub accepted :
      length s ≤ sheet_end f p t → stray s (pools_start f + count_size + fuel_index_offset) pool_size p f ≡ false
      → stray s (targets_start f p + count_size) target_size t p ≡ false → record { state = 0; fuels = f; pools = p; targets = t } ≡ after_sections s
  unfolding after_sections
  accepted h e g = simp (le-ltb _ _ (rw (fuels_are, pools_are, targets_are) at h), sym fuels_tested ∙ e, sym pools_tested ∙ g) (λ j. record { state = 0; fuels = fuels_are j; pools = pools_are j; targets = targets_are j })

-- The three sections, one after the other.
module _ (s : List ℕ) where
  pub fuels_refused : (why : Fault) → section_of s 0 fuel_size most_fuels ≡ Err why → refused (number_of why) ≡ reading_of s
  unfolding reading_of
  fuels_refused why e = section_refused s 0 fuel_size most_fuels why (from_pools s) e

  module _ (f : ℕ) (fuels_told : section_of s 0 fuel_size most_fuels ≡ Ok f) (fuels : Holding s 0 fuel_size most_fuels f) where
    fuels_passed : from_pools s ≡ reading_of s
    unfolding reading_of
    fuels_passed = section_held s 0 fuel_size most_fuels f (from_pools s) fuels_told

    pub fuels_are : f ≡ fuels_of s
    unfolding fuels_of
    fuels_are = fuels.counted

    pub pools_refused : (why : Fault) → section_of s (pools_start f) pool_size most_pools ≡ Err why → refused (number_of why) ≡ reading_of s
    unfolding from_pools
    pools_refused why e = section_refused s (pools_start f) pool_size most_pools why (from_targets s) e ∙ rw fuels_are fuels_passed

    module _ (p : ℕ) (pools_told : section_of s (pools_start f) pool_size most_pools ≡ Ok p) (pools : Holding s (pools_start f) pool_size most_pools p) where
      pools_passed : from_targets s ≡ reading_of s
      unfolding from_pools
      pools_passed = section_held s (pools_start f) pool_size most_pools p (from_targets s) pools_told ∙ rw fuels_are fuels_passed

      pub pools_are : p ≡ pools_of s
      unfolding pools_of
      pools_are = pools.counted ∙ rw fuels_are

      pub targets_refused : (why : Fault) → section_of s (targets_start f p) target_size most_targets ≡ Err why → refused (number_of why) ≡ reading_of s
      unfolding from_targets
      targets_refused why e = section_refused s (targets_start f p) target_size most_targets why (after_sections s) e ∙ rw (fuels_are, pools_are) pools_passed

      module _ (t : ℕ) (targets_told : section_of s (targets_start f p) target_size most_targets ≡ Ok t) (targets : Holding s (targets_start f p) target_size most_targets t) where
        pub targets_passed : after_sections s ≡ reading_of s
        unfolding from_targets
        targets_passed = section_held s (targets_start f p) target_size most_targets t (after_sections s) targets_told ∙ rw (fuels_are, pools_are) pools_passed

        pub targets_are : t ≡ targets_of s
        unfolding targets_of
        targets_are = targets.counted ∙ rw (fuels_are, pools_are)
