-- The bytes of a fill: ten for a target, the targets one after the other, and which case of the definition holds.
-- By the laws of writes in a row. Assumes nothing.
use mathlib.Core.Path.{◌≡◌, refl, ap, ◌∙◌}
use mathlib.Core.List.{List, [], ◌∷◌, ◌++◌}
use Prim.Native.Nat.{ℕ, zero, suc, ◌+◌, ◌*◌, ◌≤◌}
use native.Mathlib.Numerals.{add-one}
use native.Mathlib.Omega.{arith}
use lib.ListN.{length, drop, set, length-append}
use Rattle.chain.specs.Flux.{Shown}
use Rattle.sheet.specs.declared.reading.Counts.{Counts}
use Rattle.sheet.specs.declared.reading.Fault.{Fault}
use Rattle.std.specs.Prelude.{Ok, Err}
use Rattle.sheet.specs.Layout.{answer_size}
use Rattle.sheet.specs.Bytes.{four_bytes}
use Rattle.sheet.specs.Reading.{Outcome, outcome, number_of, refused, reading_of}
use Rattle.sheet.specs.Target.{shown_of}
use Rattle.sheet.specs.Lent.{untouched, with_room, lent}
use Rattle.sheet.specs.Fill.{ten_bytes, answers, fill_of}
use Rattle.sheet.specs.Private.{pasted}
use Rattle.sheet.proofs.Pasting.{store, join, store_after}
use Rattle.sheet.proofs.Sections.{by_number}
use Rattle.sheet.proofs.Lending.{room}

-- A state, two numbers of four bytes and a note, one after the other.
pub ten_written :
    (d e f : List ℕ) (at : ℕ) (a : Shown) → at + answer_size ≤ length d → e ≡ pasted (set d at a.state) (at + 1) (four_bytes a.low)
    → f ≡ pasted e (at + 5) (four_bytes a.high) → set f (at + 9) a.note ≡ pasted d at (ten_bytes a)
unfolding four_bytes ten_bytes
ten_written d e f at a h p q =
    let s : List ℕ = a.state ∷ [] in
    let first : e ≡ pasted d at (s ++ four_bytes a.low) = p ∙ ap (λ (x : List ℕ). pasted x (at + 1) (four_bytes a.low)) (store d at a.state (omega arith)) ∙ join d at s (four_bytes a.low) (omega arith) in
    let second : f ≡ pasted d at (s ++ four_bytes a.low ++ four_bytes a.high) = q ∙ ap (λ (x : List ℕ). pasted x (at + 5) (four_bytes a.high)) first ∙ join d at (s ++ four_bytes a.low) (four_bytes a.high) (omega arith) in
    ap (λ (x : List ℕ). set x (at + 9) a.note) second ∙ store_after d at (s ++ four_bytes a.low ++ four_bytes a.high) a.note (omega arith)

pub ten : (a : Shown) → length (ten_bytes a) ≡ answer_size
unfolding ten_bytes four_bytes
ten a = refl

pub answers_length : (s : List ℕ) (n : ℕ) → length (answers s n) ≡ answer_size * n
unfolding answers
answers_length s zero = refl
answers_length s (suc n) = length-append (answers s n) (ten_bytes (shown_of s n)) ∙ omega (arith, answers_length s n, ten (shown_of s n))

pub one_more :
    (s d e f : List ℕ) (i : ℕ) (a : Shown) → answer_size * (i + 1) ≤ length d → e ≡ pasted d 0 (answers s i) → a ≡ shown_of s i
    → f ≡ pasted e (answer_size * i) (ten_bytes a) → f ≡ pasted d 0 (answers s (i + 1))
unfolding answers
one_more s d e f i a h p q r =
    let at : answer_size * i ≡ 0 + length (answers s i) = omega (arith, answers_length s i) in
    r ∙ rw (p, q, at, add-one i) (join d 0 (answers s i) (ten_bytes (shown_of s i)) (omega (arith, answers_length s i, ten (shown_of s i))))

-- The cases of the definition.
pub written :
    (s out last : List ℕ) (t : ℕ) → answer_size * t ≤ length out → last ≡ pasted out 0 (answers s t)
    → record { number = 0; elements = last } ≡ with_room answer_size (answers s) t out
unfolding pasted
written s out last t h e =
    let past : 0 + length (answers s t) ≡ answer_size * t = omega (arith, answers_length s t) in
    (λ j. record { number = 0; elements = (e ∙ ap (λ (k : ℕ). answers s t ++ drop k out) past) j }) ∙ room answer_size (answers s) t out h

pub fill_refused : (s out : List ℕ) (why : Fault) → outcome (Err why) ≡ reading_of s → untouched (number_of why) out ≡ fill_of s out
unfolding fill_of
fill_refused s out why e =
    by_number (λ n. untouched n out ≡ lent (refused n) answer_size (answers s) out) (λ k. refl) why ∙ ap (λ (o : Outcome). lent o answer_size (answers s) out) e

pub fill_accepted :
    (s out : List ℕ) (n : Counts) → outcome (Ok n) ≡ reading_of s → with_room answer_size (answers s) n.targets out ≡ fill_of s out
unfolding fill_of
fill_accepted s out n e = ap (λ (o : Outcome). lent o answer_size (answers s) out) e
