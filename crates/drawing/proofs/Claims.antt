-- What is claimed of the floats: every figure is small, so that its float, the sum and the half are exact; and a refused enquiry gives
-- zeros alone. Assumes nothing.
use mathlib.Core.Path.{◌≡◌, refl}
use mathlib.Core.Bool.{true}
use mathlib.Core.List.{List}
use Prim.Native.Nat.{ℕ, zero, suc, ◌*◌, ◌≤◌, ◌<◌}
use native.Mathlib.Omega.{arith}
use lib.ListN.{drop, get_or}
use lib.Ieee.{Float}
use Rattle.chain.specs.declared.enquiry.Enquiry.{Enquiry}
use Rattle.chain.specs.Flux.{flux_of}
use Rattle.sheet.specs.Layout.{most_targets}
use Rattle.sheet.specs.Reading.{reading_of}
use Rattle.sheet.specs.Target.{enquiry_of, shown_of}
use Rattle.sheet.proofs.Sections.{few_targets}
use Rattle.sheet.proofs.Lending.{returned_0, kept}
use Rattle.drawing.specs.declared.figures.Ends.{Ends}
use Rattle.drawing.specs.declared.figures.Ends.TheVariants.{Answered, Refused}
use Rattle.drawing.specs.declared.figures.Group.{Group}
use Rattle.drawing.specs.Floats.{float, plain}
use Rattle.drawing.specs.Figures.{ends, ends_of, three_zeros, group_of}
use Rattle.drawing.specs.Groups.{group_at, listed, groups_of}
use Rattle.drawing.specs.Lent.{group_size, laid_out, fill_groups_of}
use Rattle.drawing.specs.Claims.{limit, Drawn, plain_ends, plain_group, Claims}
use Rattle.drawing.proofs.Values.{exact, between, group_plain}
use Rattle.drawing.proofs.Ends.{answered}
use Rattle.drawing.proofs.Accepted.{small}
use Rattle.drawing.proofs.Listing.{each_padded, each_lent}
use Rattle.drawing.proofs.Plain.{Plain, both, all_plain, zero_plain, zeros}

-- ---- an accepted enquiry
drawn : (E : Enquiry) → (flux_of E).state ≡ 0 → Drawn E
unfolding ends_of group_of
drawn E e =
    let a = flux_of E in
    let s = small E e in
    let low : a.low < limit = omega (arith, s.ordered, s.most) in
    let high : a.high < limit = omega (arith, s.most) in
    let is = answered a e in
    record {
      exact = exact a.low a.high low high;
      answered = is;
      between = rw is (between a.low a.high low high s.ordered);
    }

-- ---- every enquiry: by its state
module _ (E : Enquiry) where
  answered_plain : (flux_of E).state ≡ 0 → Plain (group_of (ends (flux_of E)))
  unfolding group_of
  answered_plain e =
      let a = flux_of E in
      let s = small E e in
      let p = group_plain a.low a.high (omega (arith, s.ordered, s.most)) (omega (arith, s.most)) in
      rw (answered a e) (record { low = p.0; middle = p.1; high = p.2 })

  enquiry_plain : Plain (group_of (ends (flux_of E)))
  enquiry_plain = by_state (flux_of E).state refl
    where
      by_state : (n : ℕ) → (flux_of E).state ≡ n → Plain (group_of (ends (flux_of E)))
      by_state zero e = answered_plain e
      by_state (suc n) e = unfold group_of in rw e zeros

  enquiry_ends_plain : plain_ends (ends_of E) ≡ true
  unfolding ends_of group_of
  enquiry_ends_plain = by_ends (ends (flux_of E)) enquiry_plain
    where
      by_ends : (e : Ends) → Plain (group_of e) → plain_ends e ≡ true
      by_ends (Answered low high) p = unfold group_of in both p.low p.high
      by_ends (Refused number) p = refl

-- ---- every sheet
target_plain : (s : List ℕ) (i : ℕ) → Plain (group_at s i)
unfolding group_at shown_of
target_plain s i = enquiry_plain (enquiry_of s i)

sheet_plain : (s : List ℕ) (i : ℕ) → i < most_targets → (other : Group) → plain_group (get_or (groups_of s).groups i other) ≡ true
unfolding groups_of
sheet_plain s =
    each_padded (λ g. plain_group g ≡ true) (group_at s) (all_plain three_zeros zeros) (λ i. all_plain (group_at s i) (target_plain s i))
    (reading_of s).targets (few_targets s)

few : (s : List ℕ) → (groups_of s).count ≤ most_targets
unfolding groups_of
few = few_targets

refused_kept : (s : List ℕ) (out : List Float) (n : ℕ) → (fill_groups_of s out).number ≡ suc n → (fill_groups_of s out).elements ≡ out
unfolding fill_groups_of
refused_kept s out = kept group_size (λ n. laid_out (listed (group_at s) n)) (reading_of s) out

written_plain :
    (s : List ℕ) (out : List Float) → (fill_groups_of s out).number ≡ 0 → (i : ℕ) → i < group_size * (reading_of s).targets → (other : Float)
    → plain (get_or (fill_groups_of s out).elements i other) ≡ true
unfolding fill_groups_of
written_plain s out e i h other =
    let n = (reading_of s).targets in
    rw (returned_0 group_size (λ n. laid_out (listed (group_at s) n)) (reading_of s) out e).1
    (each_lent (λ x. plain x ≡ true) (group_at s) (float 0) zero_plain (λ j. let p = target_plain s j in (p.low, p.middle, p.high)) n (drop (group_size * n) out) i h other)

pub claims : Claims
claims =
    record {
      exact = exact;
      drawn = drawn;
      ends_plain = enquiry_ends_plain;
      few = few;
      groups_plain = sheet_plain;
      refused_kept = refused_kept;
      fill_plain = written_plain;
    }
