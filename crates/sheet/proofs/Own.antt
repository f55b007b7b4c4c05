-- What the bytes of a fill depend on: a target's ten on its own entry, its pool and that pool's fuel, and no other byte of the sheet;
-- later bytes, and all bytes with a refusal, on nothing but what stood there. By cutting the lists. Assumes nothing.
use mathlib.Core.Path.{◌≡◌, refl, sym, ap, ◌∙◌}
use mathlib.Core.List.{List, ◌++◌, append_assoc}
use Prim.Native.Nat.{ℕ, zero, suc, ◌+◌, ◌*◌, ◌≤◌, ◌<◌}
use native.Mathlib.Nat.{add_assoc, add-zero}
use native.Mathlib.Decide.{dec_lt}
use native.Mathlib.Omega.{arith}
use lib.ListN.{take, drop, get_or}
use lib.Seq.{get_or-take, get_or-drop, take_at, drop_at}
use Rattle.chain.specs.Flux.{flux_of}
use Rattle.sheet.specs.Layout.{fuel_size, absorption_offset, heat_offset, pool_size, method_offset, target_size, distance_offset, face_offset, height_offset, transmissivity_offset, answer_size, fuel_at, pool_at, target_at}
use Rattle.sheet.specs.Bytes.{one, two, four, signed, four_signed}
use Rattle.sheet.specs.Reading.{reading_of, fuels_of, pools_of, targets_of, fuel_index, pool_index}
use Rattle.sheet.specs.Target.{enquiry_at, enquiry_of, shown_of}
use Rattle.sheet.specs.Fill.{ten_bytes, answers, fill_of}
use Rattle.sheet.proofs.Sections.{sound}
use Rattle.sheet.proofs.Lending as lending
use Rattle.sheet.proofs.Lending.{filled_with, returned_0}
use Rattle.sheet.proofs.Filling.{ten, answers_length}

-- The bytes of a record.
unfoldable pub cut : List ℕ → ℕ → ℕ → List ℕ
cut s at size = take size (drop at s)

-- A target's own entry, its pool and that pool's fuel.
unfoldable pub entry_bytes : List ℕ → ℕ → List ℕ
entry_bytes s i = cut s (target_at (fuels_of s) (pools_of s) i) target_size

unfoldable pub pool_bytes : List ℕ → ℕ → List ℕ
pool_bytes s i = cut s (pool_at (fuels_of s) (pool_index s i)) pool_size

unfoldable pub fuel_bytes : List ℕ → ℕ → List ℕ
fuel_bytes s i = cut s (fuel_at (fuel_index s (pool_index s i))) fuel_size

-- Numbers inside equal records are equal.
module _ (s t : List ℕ) (at to size : ℕ) (e : cut s at size ≡ cut t to size) where
  same_byte : (k : ℕ) → k < size → get_or s (at + k) 0 ≡ get_or t (to + k) 0
  unfolding cut
  same_byte k h =
      sym (get_or-drop at s k 0) ∙ sym (get_or-take size (drop at s) k 0 h) ∙ ap (λ (x : List ℕ). get_or x k 0) e ∙ get_or-take size (drop to t) k 0 h ∙ get_or-drop to t k 0

  pub same_one : (k : ℕ) → k < size → one s (at + k) ≡ one t (to + k)
  unfolding one
  same_one k h = same_byte k h

  same_two : (k : ℕ) → k + 2 ≤ size → two s (at + k) ≡ two t (to + k)
  unfolding two
  same_two k h = cc (add_assoc at k 1, add_assoc to k 1, same_byte k (omega arith), same_byte (k + 1) (omega arith))

  pub same_four : (k : ℕ) → k + 4 ≤ size → four s (at + k) ≡ four t (to + k)
  unfolding four
  same_four k h = cc (add_assoc at k 2, add_assoc to k 2, same_two k (omega arith), same_two (k + 2) (omega arith))

  same_signed : (k : ℕ) → k + 4 ≤ size → four_signed s (at + k) ≡ four_signed t (to + k)
  unfolding four_signed
  same_signed k h = ap signed (same_four k h)

  first_two : 2 ≤ size → two s at ≡ two t to
  first_two h = cc (add-zero at, add-zero to, same_two 0 (omega arith))

  first_four : 4 ≤ size → four s at ≡ four t to
  first_four h = cc (add-zero at, add-zero to, same_four 0 (omega arith))

same_enquiry :
    (s t : List ℕ) (f g p q a b : ℕ) → cut s f fuel_size ≡ cut t g fuel_size → cut s p pool_size ≡ cut t q pool_size
    → cut s a target_size ≡ cut t b target_size → enquiry_at s f p a ≡ enquiry_at t g q b
unfolding enquiry_at
same_enquiry s t f g p q a b u v w =
    λ x. record {
      rate = first_two s t f g fuel_size u (omega arith) x;
      absorption = same_two s t f g fuel_size u absorption_offset (omega arith) x;
      heat = same_two s t f g fuel_size u heat_offset (omega arith) x;
      area = first_four s t p q pool_size v (omega arith) x;
      method = same_one s t p q pool_size v method_offset (omega arith) x;
      distance = same_four s t a b target_size w distance_offset (omega arith) x;
      face = same_one s t a b target_size w face_offset (omega arith) x;
      height = same_signed s t a b target_size w height_offset (omega arith) x;
      transmissivity = same_two s t a b target_size w transmissivity_offset (omega arith) x;
    }

same_shown :
    (s t : List ℕ) (i j : ℕ) → entry_bytes s i ≡ entry_bytes t j → pool_bytes s i ≡ pool_bytes t j → fuel_bytes s i ≡ fuel_bytes t j
    → shown_of s i ≡ shown_of t j
unfolding shown_of enquiry_of entry_bytes pool_bytes fuel_bytes
same_shown s t i j e p f = ap flux_of (same_enquiry s t _ _ _ _ _ _ f p e)

-- The ten bytes of target i among those of all targets.
pub own_place : (s : List ℕ) (n i : ℕ) (rest : List ℕ) → i < n → cut (answers s n ++ rest) (answer_size * i) answer_size ≡ ten_bytes (shown_of s i)
unfolding answers cut
own_place s zero i rest h = absurd (omega arith)
own_place s (suc n) i rest h =
    let a = answers s n in
    let b = ten_bytes (shown_of s n) in
    elim (dec_lt i n) [
      | yes l ↦ ap (λ (x : List ℕ). take answer_size (drop (answer_size * i) x)) (append_assoc a b rest) ∙ own_place s n i (b ++ rest) l
      | no l ↦
          let last : i ≡ n = omega arith in
          ap (λ (x : List ℕ). take answer_size (drop (answer_size * i) x)) (append_assoc a b rest)
          ∙ ap (take answer_size) (drop_at a (b ++ rest) (answer_size * i) (omega (arith, answers_length s n)))
          ∙ take_at b rest answer_size (ten (shown_of s n))
          ∙ ap (λ (k : ℕ). ten_bytes (shown_of s k)) (sym last)
    ]

-- A fill that returns 0 has written its answers.
filled : (s out : List ℕ) → (fill_of s out).number ≡ 0 → (fill_of s out).elements ≡ filled_with answer_size (answers s) (targets_of s) out
unfolding fill_of
filled s out e =
    let k = returned_0 answer_size (answers s) (reading_of s) out e in
    k.1 ∙ ap (λ (n : ℕ). filled_with answer_size (answers s) n out) (sound s (reading_of s) refl k.0).targets_are

-- "For every target its ten bytes depend only on its own entry, its pool and that pool's fuel."
pub own :
    (s t out pad : List ℕ) (i j : ℕ) → (fill_of s out).number ≡ 0 → (fill_of t pad).number ≡ 0 → i < targets_of s → j < targets_of t
    → entry_bytes s i ≡ entry_bytes t j → pool_bytes s i ≡ pool_bytes t j → fuel_bytes s i ≡ fuel_bytes t j
    → cut (fill_of s out).elements (answer_size * i) answer_size ≡ cut (fill_of t pad).elements (answer_size * j) answer_size
own s t out pad i j z w h k e p f =
    rw (filled s out z, filled t pad w)
    (own_place s (targets_of s) i _ h ∙ ap ten_bytes (same_shown s t i j e p f) ∙ sym (own_place t (targets_of t) j _ k))

-- "Later bytes of the lent slice keep their values."
pub later : (s out : List ℕ) → (fill_of s out).number ≡ 0 → drop (answer_size * targets_of s) (fill_of s out).elements ≡ drop (answer_size * targets_of s) out
later s out z = rw (filled s out z) (drop_at (answers s (targets_of s)) _ (answer_size * targets_of s) (answers_length s (targets_of s)))

-- "Then nothing is written."
pub kept : (s out : List ℕ) (n : ℕ) → (fill_of s out).number ≡ suc n → (fill_of s out).elements ≡ out
unfolding fill_of
kept s out = lending.kept answer_size (answers s) (reading_of s) out
