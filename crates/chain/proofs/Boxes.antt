-- Boxes for the sweeps, and what is known of an answer: inside a box, inside a wider bound, a constant of the enquiry, an answer
-- times k over n.
-- Assumes nothing.
use mathlib.Core.Path.{◌≡◌, ap, subst, sym}
use mathlib.Core.Bool.{Bool, true, false, ◌&&◌}
use mathlib.Core.List.{List, [], ◌∷◌}
use Prim.Native.Nat.{ℕ, zero, suc, ◌+◌, ◌*◌, ◌^◌, ◌≤◌, ◌<◌}
use native.Mathlib.Nat.{le_trans, lt_of_le_of_lt}
use native.Mathlib.Omega.{arith}
use lib.Dec.{T, leb, ltb, leb→le, lt→ltb}
use lib.Ieee.Fits.{and_i, and_l, and_r}
use Rattle.pairs.specs.Rounded as R
use Rattle.pairs.specs.Figures.{Figures, given}
use Rattle.pairs.specs.Answers as A
use Rattle.pairs.specs.Answers.{answers, fitting}
use Rattle.pairs.proofs.Agreement.{fitting_given}
use Rattle.pairs.proofs.Rounding.{up_le}
use Rattle.chain.proofs.Bounds as B
use Rattle.chain.proofs.Bounds.{Bound, bound}
use Rattle.chain.proofs.Inside.{Inside}
use Rattle.chain.proofs.Within.{Held, Within, within}

-- Pairs whose low end is from a to b, at most w wide.
abbrev pub box : ℕ → ℕ → ℕ → Bound
box a b w = record { least = a; most = b + w; width = w; safe = true }

pub in_box : {f : Figures} (a b w : ℕ) → f.number ≡ 0 → a ≤ f.pair.low → f.pair.low ≤ b → f.pair.low ≤ f.pair.high → f.pair.high ≤ f.pair.low + w → Within f (box a b w)
in_box a b w z l u o n =
    record { where_safe = λ _. record { given = z; inside = record { low = l; ordered = o; high = omega arith; near = n } } }

pub known : {f : Figures} {b : Bound} → Held f b → Within f b
known h = record { where_safe = λ _. h }

pub below_last : {f : Figures} {b : Bound} → Held f b → f.pair.low < suc b.most
below_last {f} {b} h = omega (arith, h.inside.ordered, h.inside.high)

-- What holds of both holds of the one chosen.
pub either : {X : Type 0} (P : X → Type 0) (b : Bool) {x y : X} → P x → P y → P (elim b [ true ↦ x | false ↦ y ])
either P true h k = h
either P false h k = k

-- Inside a bound, so inside a wider one.
pub loosen : {f : Figures} {b : Bound} (c : Bound) → c.least ≤ b.least → b.most ≤ c.most → b.width ≤ c.width → Held f b → Held f c
loosen c x y z h =
    let i = h.inside in
    record {
      given = h.given;
      inside = record { low = le_trans x i.low; ordered = i.ordered; high = le_trans i.high y; near = omega (arith, i.near, z) };
    }

-- A bound whose tests pass: safe, and inside c.
unfoldable pub passing : Bound → Bound → Bool
passing c b = b.safe && leb c.least b.least && leb b.most c.most && leb b.width c.width

pub record Passed (c b : Bound) : Type 0 where
  pub safe : T b.safe
  pub least : c.least ≤ b.least
  pub most : b.most ≤ c.most
  pub width : b.width ≤ c.width

pub tests_passed : (c b : Bound) → T (passing c b) → Passed c b
unfolding passing
tests_passed c b t =
    let low : Bool = leb c.least b.least in
    let high : Bool = leb b.most c.most in
    let near : Bool = leb b.width c.width in
    let t₁ = and_l (b.safe && low && high) near t in
    let t₂ = and_l (b.safe && low) high t₁ in
    record {
      safe = and_l b.safe low t₂;
      least = leb→le c.least b.least (and_r b.safe low t₂);
      most = leb→le b.most c.most (and_r (b.safe && low) high t₁);
      width = leb→le b.width c.width (and_r (b.safe && low && high) near t);
    }

pub passed : {f : Figures} {b : Bound} (c : Bound) → T (passing c b) → Within f b → Held f c
passed {f} {b} c t h = let p = tests_passed c b t in loosen c p.least p.most p.width (h.where_safe p.safe)

-- A constant of the enquiry, from where its pair lies.
pub constant_held : (n d : ℕ) (b : Bound) → b.most < 2 ^ 64 → Inside (R.constant n d) b → Held (A.constant n d) b
unfolding A.constant
constant_held n d b small h =
    let fits : fitting (R.constant n d) ≡ given (R.constant n d) = fitting_given _ (lt_of_le_of_lt h.high small) in
    record { given = ap (λ (f : Figures). f.number) fits; inside = subst (λ (f : Figures). Inside f.pair b) (sym fits) h }

-- An answer times k, over n, where k times its bound stays below 2^64.
times_over_safe : (b : Bound) (k n : ℕ) → T b.safe → zero < n → b.most * k < 2 ^ 64 → T (B.over (B.times b k) n).safe
unfolding B.over B.times bound
times_over_safe b k n t above fits =
    let m = b.most * k in
    and_i (ltb (R.up m n) (2 ^ 64)) (ltb 0 n && (ltb m (2 ^ 64) && b.safe))
    (lt→ltb (R.up m n) (2 ^ 64) (lt_of_le_of_lt (up_le m n above) fits))
    (and_i (ltb 0 n) (ltb m (2 ^ 64) && b.safe) (lt→ltb 0 n above) (and_i (ltb m (2 ^ 64)) b.safe (lt→ltb m (2 ^ 64) fits) t))

pub times_over_held :
    {f : Figures} {b : Bound} (k n : ℕ) → T b.safe → zero < n → b.most * k < 2 ^ 64 → Held f b
    → Held (answers.over (answers.times f k) n) (B.over (B.times b k) n)
times_over_held {b = b} k n t above fits h = (within.over (within.times (known h) k) n).where_safe (times_over_safe b k n t above fits)

-- Many tests at once.
abbrev pub every : List Bool → Bool
every [] = true
every (t ∷ ts) = t && every ts

abbrev pub Every : List Bool → Type 0
Every [] = Unit {0}
Every (t ∷ ts) = T t × Every ts

pub each : (ts : List Bool) → T (every ts) → Every ts
each [] t = tt
each (c ∷ ts) t = (and_l c (every ts) t, each ts (and_r c (every ts) t))
