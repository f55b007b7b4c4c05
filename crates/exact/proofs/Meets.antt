-- What the arithmetic of answers gives meets an exact bracket: the bracket is sound, and where the answer is no refusal the
-- two overlap. Each operation keeps that, so that no side condition of the rounded chain is carried. Assumes nothing.
use mathlib.Core.Path.{◌≡◌}
use Prim.Native.Nat.{ℕ, zero, ◌*◌, ◌/◌, ◌<◌}
use lib.Dec.{T, eqb}
use Rattle.pairs.specs.declared.answer.Pair.{Pair}
use Rattle.pairs.specs.Figures.{Figures, given, after}
use Rattle.pairs.specs.Rounded as rounded
use Rattle.pairs.specs.Rounded.{U, is_cold, cold_pair}
use Rattle.pairs.specs.Answers as answers
use Rattle.pairs.specs.Answers.{admit, fitting}
use Rattle.pairs.proofs.Search.{by_test}
use Rattle.pairs.proofs.Agreement.{above_0}
use Rattle.exact.specs.Fraction.{◌⊑◌}
use Rattle.exact.specs.Depth as depth
use Rattle.exact.specs.Depth.{Bracket}
use Rattle.exact.proofs.Overlap.{Overlap, trillionths, low_only, high_only_overlap, constant_overlap, sum_overlap, difference_overlap, product_overlap, quotient_overlap, times_overlap, over_overlap, root_overlap, fifth_root_overlap, below_20_overlap, cold_overlap}
use Rattle.exact.proofs.Sound.{Sound, Positive, constant_sound, sum_sound, difference_sound, product_sound, quotient_sound, times_sound, over_sound, root_sound, unless_cold_sound}
use Rattle.exact.proofs.Passing.{Passing, after_passing, refuse_passing, admit_passing, fitting_passing}

pub record Meets (f : Figures) (x : Bracket) : Type 0 where
  pub sound : Sound x
  pub overlap : f.number ≡ 0 → Overlap f.pair x

-- One argument, and two, before a result that may be too large; 61 is tested of each.
after_one :
    (a : Figures) {p : Pair} {x : Bracket} → (a.number ≡ 0 → Overlap p x) →
    Passing (λ r. Overlap r x) (after a (admit a.pair (fitting p)))
after_one a {p} {x} h =
    after_passing (λ r. Overlap r x) a _ (λ u. admit_passing (λ r. Overlap r x) a.pair _ (fitting_passing (λ r. Overlap r x) p (h u)))

pub after_two :
    (a b : Figures) {p : Pair} {x : Bracket} → (a.number ≡ 0 → b.number ≡ 0 → Overlap p x) →
    Passing (λ r. Overlap r x) (after a (after b (admit a.pair (admit b.pair (fitting p)))))
after_two a b {p} {x} h =
    after_passing (λ r. Overlap r x) a _
    (λ u. after_passing (λ r. Overlap r x) b _
    (λ v. admit_passing (λ r. Overlap r x) a.pair _
    (admit_passing (λ r. Overlap r x) b.pair _ (fitting_passing (λ r. Overlap r x) p (h u v)))))

-- One argument of which 61 is not tested.
after_untested : (a : Figures) {p : Pair} {x : Bracket} → (a.number ≡ 0 → Overlap p x) → Passing (λ r. Overlap r x) (after a (fitting p))
after_untested a {p} {x} h = after_passing (λ r. Overlap r x) a (fitting p) (λ u. fitting_passing (λ r. Overlap r x) p (h u))

pub constant_meets : (n d : ℕ) → zero < d → n * U / d * d ≡ n * U → Meets (answers.constant n d) (depth.constant n d)
unfolding answers.constant
constant_meets n d p e =
    record {
      sound = constant_sound n d p;
      overlap = fitting_passing (λ r. Overlap r (depth.constant n d)) (rounded.constant n d) (constant_overlap n d p e);
    }

module _ {a b : Figures} {x y : Bracket} (h : Meets a x) (k : Meets b y) where
  pub sum_meets : Meets (answers.sum a b) (depth.sum x y)
  unfolding answers.sum answers.sum_of
  sum_meets =
      record { sound = sum_sound h.sound k.sound; overlap = after_two a b (λ u v. sum_overlap (h.overlap u) (k.overlap v)) }

  pub difference_meets : Meets (answers.difference a b) (depth.difference x y)
  unfolding answers.difference answers.difference_of
  difference_meets =
      record {
        sound = difference_sound h.sound k.sound;
        overlap = after_two a b (λ u v. difference_overlap (h.overlap u) (k.overlap v));
      }

  pub product_meets : Meets (answers.product a b) (depth.product x y)
  unfolding answers.product answers.product_of
  product_meets =
      record {
        sound = product_sound h.sound k.sound;
        overlap = after_two a b (λ u v. product_overlap (h.overlap u) (k.overlap v));
      }

  -- A divisor with low end 0 is refused by 62; at depth n it has to be shown that there is none.
  pub quotient_meets : Positive y → Meets (answers.quotient a b) (depth.quotient x y)
  unfolding answers.quotient answers.quotient_of
  quotient_meets p =
      record {
        sound = quotient_sound p h.sound k.sound;
        overlap =
            after_passing Q a _
            (λ u. after_passing Q b _
            (λ v. admit_passing Q a.pair _
            (admit_passing Q b.pair _
            (refuse_passing Q (eqb b.pair.low 0) 61 _
            (λ t. fitting_passing Q _ (quotient_overlap (above_0 b.pair.low t) p (h.overlap u) (k.overlap v)))))));
      }
    where
      Q : Pair → Type 0
      Q r = Overlap r (depth.quotient x y)

module _ {a : Figures} {x : Bracket} (h : Meets a x) where
  pub times_meets : (n : ℕ) → Meets (answers.times a n) (depth.times x n)
  unfolding answers.times answers.times_of
  times_meets n = record { sound = times_sound n h.sound; overlap = after_one a (λ u. times_overlap n (h.overlap u)) }

  pub over_meets : (n : ℕ) → zero < n → Meets (answers.over a n) (depth.over x n)
  unfolding answers.over answers.over_of
  over_meets n p =
      record {
        sound = over_sound n p h.sound;
        overlap =
            after_passing Q a _
            (λ u. admit_passing Q a.pair _
            (refuse_passing Q (eqb n 0) 61 _ (λ _. fitting_passing Q _ (over_overlap n p (h.overlap u)))));
      }
    where
      Q : Pair → Type 0
      Q r = Overlap r (depth.over x n)

  pub root_meets : (n : ℕ) → Meets (answers.root a) (depth.root 2 n x)
  unfolding answers.root answers.root_of
  root_meets n = record { sound = root_sound 1 n h.sound; overlap = after_one a (λ u. root_overlap n (h.overlap u)) }

  pub fifth_root_meets : (n : ℕ) → Meets (answers.fifth_root a) (depth.root 5 n x)
  unfolding answers.fifth_root answers.fifth_root_of
  fifth_root_meets n =
      record { sound = root_sound 4 n h.sound; overlap = after_one a (λ u. fifth_root_overlap n (h.overlap u)) }

  -- A last term counts in the rounded high end alone, and of the exact one the low end is bounded.
  pub high_only_passing : Passing (λ r. Overlap r (low_only x)) (answers.high_only a)
  unfolding answers.high_only answers.high_only_of
  high_only_passing = after_untested a (λ u. high_only_overlap (h.overlap u))

-- Where y is cold, the exact low end has to be small enough.
pub unless_cold_meets :
    {f : Figures} {x : Bracket} (a : Figures) (y : Bracket) → Meets f x → (a.number ≡ 0 → T (is_cold a.pair) → x.low ⊑ trillionths cold_pair.high)
    → Meets (answers.unless_cold a f) (depth.unless_cold y x)
unfolding answers.unless_cold
unless_cold_meets {f} {x} a y h small =
    record {
      sound = unless_cold_sound y h.sound;
      overlap =
          after_passing Q a _
          (λ u. by_test (Passing Q) (is_cold a.pair) (given cold_pair) f (λ t _. cold_overlap y x (small u t)) (λ _ z. below_20_overlap y (h.overlap z)));
    }
  where
    Q : Pair → Type 0
    Q r = Overlap r (depth.unless_cold y x)
