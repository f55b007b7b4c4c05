-- What stands in the bytes of a fill that has room for every target: the figures shown for each. By the laws of the fill.
-- Assumes nothing.
use mathlib.Core.Path.{◌≡◌, refl, sym, ap, ◌∙◌}
use mathlib.Core.List.{List, ◌++◌}
use Prim.Native.Nat.{ℕ, zero, suc, ◌+◌, ◌*◌, ◌/◌, ◌%◌, ◌<◌}
use native.Mathlib.Nat.{add-zero, div-div-eq-div-mul}
use native.Mathlib.Omega.{arith}
use lib.ListN.{drop, replicate, length-replicate}
use Rattle.chain.specs.Flux.{Shown}
use Rattle.sheet.specs.Layout.{most_targets, answer_size}
use Rattle.sheet.specs.Bytes.{one, two, four, four_bytes}
use Rattle.sheet.specs.Reading.{reading_of}
use Rattle.sheet.specs.Target.{enquiry_of, shown_of}
use Rattle.sheet.specs.Lent.{Lent}
use Rattle.sheet.specs.Fill.{ten_bytes, answers, fill_of}
use Rattle.sheet.proofs.Sections.{refused_none, few_targets}
use Rattle.sheet.proofs.Lending.{filled_with, ample}
use Rattle.sheet.proofs.Own.{cut, same_one, same_four, own_place}
use Rattle.drawing.specs.declared.figures.Ends.TheVariants.{Answered}
use Rattle.drawing.specs.Floats.{float}
use Rattle.drawing.specs.Figures.{ends, group_of}
use Rattle.drawing.specs.Groups.{group_at, listed}
use Rattle.drawing.specs.Private.{shown_in, group_in}
use Rattle.drawing.proofs.Accepted.{Small, small}
use Rattle.drawing.proofs.Listing.{listed_same}

-- ---- the buffer that the code lends has room for the most targets: the fill is refused as reading is, and by nothing else
abbrev pub blank : List ℕ
blank = replicate (answer_size * most_targets) 0

filled :
    (s : List ℕ)
    → record { number = (reading_of s).state; elements = filled_with answer_size (answers s) (reading_of s).targets blank } ≡ fill_of s blank
unfolding fill_of answers
filled s =
    ample answer_size (answers s) (reading_of s) (refused_none s) refl blank
    (omega (arith, few_targets s, length-replicate {A = ℕ} (answer_size * most_targets) 0))

-- ---- the figures in ten bytes
by_digits :
    (n a b c : ℕ) → a ≡ n / 256 → b ≡ a / 256 → c ≡ b / 256 → c < 256
    → 65_536 * (256 * (c % 256) + b % 256) + (256 * (a % 256) + n % 256) ≡ n
by_digits n a b c e f g h = omega arith

four_read : (n : ℕ) → n < 4_294_967_296 → 65_536 * (256 * (n / 16_777_216 % 256) + n / 65_536 % 256) + (256 * (n / 256 % 256) + n % 256) ≡ n
four_read n h =
    rw (← div-div-eq-div-mul n 65_536 256, ← div-div-eq-div-mul n 256 256)
    (by_digits n (n / 256) (n / 256 / 256) (n / 256 / 256 / 256) refl refl refl (omega (arith, h)))

-- An answer's ends are those of its figures; the note has no part in them.
same_ends :
    (n : ℕ) {low low' high high' : ℕ} → (n ≡ 0 → (low ≡ low') × (high ≡ high'))
    → ends (record { state = n; low = low; high = high; note = 0 }) ≡ ends (record { state = n; low = low'; high = high'; note = 0 })
same_ends zero h = let p = h refl in λ i. Answered (float (p.0 i)) (float (p.1 i))
same_ends (suc n) h = refl

-- Low and high are read back where they fit four bytes; of a refused target only the state is.
ends_read :
    (b : List ℕ) (at : ℕ) (a : Shown) → cut b at answer_size ≡ ten_bytes a → (a.state ≡ 0 → Small a.low a.high)
    → ends (shown_in b at) ≡ ends a
unfolding shown_in cut ten_bytes four_bytes one two four
ends_read b at a e h =
    let state : one b at ≡ a.state = ap (one b) (sym (add-zero at)) ∙ same_one b (ten_bytes a) at 0 answer_size e 0 (omega arith) in
    rw state
    (same_ends a.state
    (λ z.
    let figures = h z in (
      same_four b (ten_bytes a) at 0 answer_size e 1 (omega arith) ∙ four_read a.low (omega (arith, figures.ordered, figures.most)),
      same_four b (ten_bytes a) at 0 answer_size e 5 (omega arith) ∙ four_read a.high (omega (arith, figures.most)),
    )))

-- The group of target i is that of the i-th answer.
pub group_read : (s rest : List ℕ) (n i : ℕ) → i < n → group_in (answers s n ++ rest) i ≡ group_at s i
unfolding group_in group_at shown_of
group_read s rest n i h =
    ap group_of (ends_read (answers s n ++ rest) (answer_size * i) (shown_of s i) (own_place s n i rest h) (small (enquiry_of s i)))

-- The group of ten bytes is that of the answer that they are.
pub answer_read : (b answer : List ℕ) (n : ℕ) → cut b (answer_size * n) answer_size ≡ cut answer 0 answer_size → group_of (ends (shown_in answer 0)) ≡ group_in b n
unfolding group_in shown_in
answer_read b answer n e =
    let at = answer_size * n in
    let state : one b at ≡ one answer 0 = ap (one b) (sym (add-zero at)) ∙ same_one b answer at 0 answer_size e 0 (omega arith) in
    let low = same_four b answer at 0 answer_size e 1 (omega arith) in
    let high = same_four b answer at 0 answer_size e 5 (omega arith) in
    let note = same_one b answer at 0 answer_size e 9 (omega arith) in
    sym (λ i. group_of (ends (record { state = state i; low = low i; high = high i; note = note i })))

-- All groups of a sheet, from the bytes that the fill leaves in that buffer.
pub groups_read :
    (s b : List ℕ) (count : ℕ) → b ≡ (fill_of s blank).elements → (reading_of s).targets ≡ count
    → listed (group_in b) count ≡ listed (group_at s) (reading_of s).targets
groups_read s b count e c =
    let n = (reading_of s).targets in
    let rest = drop (answer_size * n) blank in
    rw (← c, e ∙ sym (ap (λ (f : Lent ℕ). f.elements) (filled s)))
    (listed_same (group_in (answers s n ++ rest)) (group_at s) n (group_read s rest n))
