-- What the arithmetic of bounds says of the arithmetic of answers: where the bound is safe, the answer is a pair inside it.
-- Each operation keeps that; an answer is not refused because the bound made the refusal's tests before. Assumes nothing.
use mathlib.Core.Path.{◌≡◌, refl, sym, ap, subst}
use mathlib.Core.Bool.{Bool, true, ◌&&◌}
use Prim.Native.Nat.{ℕ, zero, ◌*◌, ◌^◌, ◌≤◌, ◌<◌}
use native.Mathlib.Nat.{le_trans, lt_of_le_of_lt}
use native.Mathlib.Omega.{arith}
use lib.Dec.{T, leb, ltb, eqb, leb→le, ltb→lt, eqb→eq}
use lib.Ieee.Fits.{and_l, and_r}
use Rattle.pairs.specs.declared.answer.Pair.{Pair}
use Rattle.pairs.specs.Rounded as R
use Rattle.pairs.specs.Rounded.{U, is_cold, cold_pair}
use Rattle.pairs.specs.Figures.{Figures, given, refused, refuse, after}
use Rattle.pairs.specs.Answers as A
use Rattle.pairs.specs.Answers.{answers, admit, fitting}
use Rattle.pairs.proofs.Agreement.{after_given, refuse_given, fitting_given}
use Rattle.pairs.proofs.Search.{by_test}
use Rattle.pairs.proofs.Turned.{ordered}
use Rattle.pairs.proofs.Kept.{Kept}
use Rattle.chain.proofs.Bounds as B
use Rattle.chain.proofs.Bounds.{Bound, bound, bounds}
use Rattle.chain.proofs.Inside as I
use Rattle.chain.proofs.Inside.{Inside}

pub record Held (f : Figures) (b : Bound) : Type 0 where
  pub given : f.number ≡ 0
  pub inside : Inside f.pair b

pub record Within (f : Figures) (b : Bound) : Type 0 where
  pub where_safe : T b.safe → Held f b

-- A pair inside a bound that is below 2^64 fits.
held_fitting : {p : Pair} (safe : Bool) (m M W : ℕ) → Inside p (bound safe m M W) → T (bound safe m M W).safe → Held (fitting p) (bound safe m M W)
unfolding bound
held_fitting {p} safe m M W h t =
    let fits : fitting p ≡ given p = fitting_given p (lt_of_le_of_lt h.high (ltb→lt M (2 ^ 64) (and_l (ltb M (2 ^ 64)) safe t))) in
    record { given = ap (λ (f : Figures). f.number) fits; inside = subst (λ (f : Figures). Inside f.pair (bound safe m M W)) (sym fits) h }

-- A pair inside a bound passes 61.
held_admit : {p : Pair} {b d : Bound} {f : Figures} → Inside p b → Held f d → Held (admit p f) d
held_admit {p} {f = f} i h = rw (ordered p f i.ordered) h

-- A tail after one part, and after two.
one_held : {f : Figures} {b : Bound} (t : Figures) (d : Bound) → Within f b → (T d.safe → T b.safe) → (T d.safe → Inside f.pair b → Held t d) → Within (after f t) d
one_held {f} t d h part tail =
    record { where_safe = λ s. let F = h.where_safe (part s) in rw (after_given f t F.given) (tail s F.inside) }

two_held : {f g : Figures} {b c : Bound} (t : Figures) (d : Bound) → Within f b → Within g c → (T d.safe → T b.safe) → (T d.safe → T c.safe) → (T d.safe → Inside f.pair b → Inside g.pair c → Held t d) → Within (after f (after g t)) d
two_held {f} {g} t d h k one two tail =
    one_held (after g t) d h one
    (λ s i. let G = k.where_safe (two s) in rw (after_given g t G.given) (tail s i G.inside))

one_fitting : {f : Figures} {b : Bound} (p : Pair) (m M W : ℕ) → Within f b → (Inside f.pair b → Inside p (bound b.safe m M W)) → Within (after f (admit f.pair (fitting p))) (bound b.safe m M W)
unfolding bound
one_fitting {f} {b} p m M W h inside =
    one_held (admit f.pair (fitting p)) (bound b.safe m M W) h (λ s. and_r (ltb M (2 ^ 64)) b.safe s)
    (λ s i. held_admit i (held_fitting b.safe m M W (inside i) s))

two_fitting : {f g : Figures} {b c : Bound} (p : Pair) (m M W : ℕ) → Within f b → Within g c → (Inside f.pair b → Inside g.pair c → Inside p (bound (b.safe && c.safe) m M W)) → Within (after f (after g (admit f.pair (admit g.pair (fitting p))))) (bound (b.safe && c.safe) m M W)
unfolding bound
two_fitting {f} {g} {b} {c} p m M W h k inside =
    let both : T (bound (b.safe && c.safe) m M W).safe → T (b.safe && c.safe) = λ s. and_r (ltb M (2 ^ 64)) (b.safe && c.safe) s in
    two_held (admit f.pair (admit g.pair (fitting p))) (bound (b.safe && c.safe) m M W) h k (λ s. and_l b.safe c.safe (both s)) (λ s. and_r b.safe c.safe (both s))
    (λ s i j. held_admit i (held_admit j (held_fitting (b.safe && c.safe) m M W (inside i j) s)))

constant_within : (n d : ℕ) → Within (A.constant n d) (B.constant n d)
unfolding A.constant B.constant
constant_within n d = record { where_safe = held_fitting true _ _ _ (I.constant_inside n d) }

not_0 : (n : ℕ) → zero < n → T (eqb n 0) → ⊥
not_0 n h t = omega (arith, eqb→eq n 0 t)

quotient_within : {f g : Figures} {b c : Bound} → Within f b → Within g c → Within (A.quotient f g) (B.quotient b c)
unfolding A.quotient A.quotient_of B.quotient bound
quotient_within {f} {g} {b} {c} h k =
    let divides : Bool = ltb 0 c.least in
    let d = B.quotient b c in
    let tests : T d.safe → T (divides && b.safe && c.safe) = λ s. and_r (ltb d.most (2 ^ 64)) (divides && b.safe && c.safe) s in
    let fits = fitting (R.quotient f.pair g.pair) in
    two_held (admit f.pair (admit g.pair (refuse (eqb g.pair.low 0) (refused 62) fits))) d h k
    (λ s. and_r divides b.safe (and_l (divides && b.safe) c.safe (tests s))) (λ s. and_r (divides && b.safe) c.safe (tests s))
    (λ s i j.
    let above : zero < c.least = ltb→lt 0 c.least (and_l divides b.safe (and_l (divides && b.safe) c.safe (tests s))) in
    held_admit i (held_admit j
    (rw (refuse_given (eqb g.pair.low 0) 62 fits (not_0 _ (le_trans above j.low)))
    (held_fitting (divides && b.safe && c.safe) d.least d.most d.width (I.quotient_inside above i j) s))))

over_within : {f : Figures} {b : Bound} → Within f b → (n : ℕ) → Within (A.over f n) (B.over b n)
unfolding A.over A.over_of B.over bound
over_within {f} {b} h n =
    let d = B.over b n in
    let tests : T d.safe → T (ltb 0 n && b.safe) = λ s. and_r (ltb d.most (2 ^ 64)) (ltb 0 n && b.safe) s in
    let fits = fitting (R.over f.pair n) in
    one_held (admit f.pair (refuse (eqb n 0) (refused 62) fits)) d h (λ s. and_r (ltb 0 n) b.safe (tests s))
    (λ s i.
    let above : zero < n = ltb→lt 0 n (and_l (ltb 0 n) b.safe (tests s)) in
    held_admit i
    (rw (refuse_given (eqb n 0) 62 fits (not_0 n above))
    (held_fitting (ltb 0 n && b.safe) d.least d.most d.width (I.over_inside i n above) s)))

-- A last term is not tested for 61.
high_only_within : {f : Figures} {b : Bound} → Within f b → Within (A.high_only f) (B.high_only b)
unfolding A.high_only A.high_only_of B.high_only bound
high_only_within {f} {b} h =
    let d = B.high_only b in
    one_held (fitting (R.high_only f.pair)) d h (λ s. and_r (ltb d.most (2 ^ 64)) b.safe s)
    (λ s i. held_fitting b.safe d.least d.most d.width (I.high_only_inside i) s)

-- A test of 63: made on the bound's high end, it fails on the answer's.
spanning_within : {f : Figures} {b : Bound} (refused_by tested : Bool) → Within f b → (T tested → f.pair.high ≤ b.most → T refused_by → ⊥) → Within (after f (admit f.pair (refuse refused_by (refused 63) (given f.pair)))) (B.spanning tested b)
unfolding B.spanning
spanning_within {f} {b} refused_by tested h passes =
    one_held (admit f.pair (refuse refused_by (refused 63) (given f.pair))) (B.spanning tested b) h (λ s. and_r tested b.safe s)
    (λ s i. held_admit i
    (rw (refuse_given refused_by 63 (given f.pair) (passes (and_l tested b.safe s) i.high))
    (record { given = refl; inside = I.spanning_inside tested i })))

over_the_limit : {h m : ℕ} (n : ℕ) → T (leb m n) → h ≤ m → T (ltb n h) → ⊥
over_the_limit {h} {m} n t k s = omega (arith, leb→le m n t, ltb→lt n h s)

at_the_limit : {h m : ℕ} (n : ℕ) → T (ltb m n) → h ≤ m → T (leb n h) → ⊥
at_the_limit {h} {m} n t k s = omega (arith, ltb→lt m n t, leb→le n h s)

-- Below 20 only x can come out; else x or the cold pair.
unless_cold_within : {f x : Figures} {b c : Bound} → Within f b → Within x c → Within (A.unless_cold f x) (B.unless_cold b c)
unfolding A.unless_cold B.unless_cold B.spanning B.or_cold is_cold
unless_cold_within {f} {x} {b} {c} h k =
    by_test (Within (A.unless_cold f x)) (ltb b.most (20 * U)) below or_cold
    (λ t. one_held _ below h (λ s. and_l b.safe c.safe s)
    (λ s i. by_test (λ u. Held u below) (is_cold f.pair) (given cold_pair) x (λ u. absurd (at_the_limit (20 * U) t (le_trans i.ordered i.high) u)) (λ _. follows s below (I.spanning_inside b.safe))))
    (λ _. one_held _ or_cold h (λ s. and_l b.safe c.safe s)
    (λ s _. by_test (λ u. Held u or_cold) (is_cold f.pair) (given cold_pair) x
    (λ _. record { given = refl; inside = I.cold_inside b.safe c }) (λ _. follows s or_cold (I.or_cold_inside b.safe))))
  where
    below : Bound
    below = B.spanning b.safe c

    or_cold : Bound
    or_cold = B.or_cold b.safe c

    follows : T (b.safe && c.safe) → (d : Bound) → (Inside x.pair c → Inside x.pair d) → Held x d
    follows s d inside = let H = k.where_safe (and_r b.safe c.safe s) in record { given = H.given; inside = inside H.inside }

pub within : Kept answers bounds Within
unfolding A.sum A.sum_of A.difference A.difference_of A.product A.product_of A.times A.times_of A.root A.root_of A.fifth_root A.fifth_root_of A.at_most_one A.at_most_one_of A.at_most_a_third A.at_most_a_third_of A.below_256 A.below_256_of B.sum B.difference B.product B.times B.root B.fifth_root B.at_most_one B.at_most_a_third B.below_256
within =
    record {
      same_terms = refl;
      constant = constant_within;
      sum = λ h k. two_fitting (R.sum _ _) _ _ _ h k I.sum_inside;
      difference = λ h k. two_fitting (R.difference _ _) _ _ _ h k I.difference_inside;
      product = λ h k. two_fitting (R.product _ _) _ _ _ h k I.product_inside;
      quotient = quotient_within;
      times = λ h n. one_fitting (R.times _ n) _ _ _ h (λ i. I.times_inside i n);
      over = over_within;
      root = λ h. one_fitting (R.root _) _ _ _ h I.root_inside;
      fifth_root = λ h. one_fitting (R.fifth_root _) _ _ _ h I.fifth_root_inside;
      high_only = high_only_within;
      at_most_one = λ {a} {b} h. spanning_within (ltb U a.pair.high) _ h (over_the_limit U);
      at_most_a_third = λ {a} {b} h. spanning_within (ltb (R.up (U * U) (3 * U)) a.pair.high) _ h (over_the_limit (R.up (U * U) (3 * U)));
      below_256 = λ {a} {b} h. spanning_within (leb (256 * U) a.pair.high) _ h (at_the_limit (256 * U));
      unless_cold = unless_cold_within;
    }
