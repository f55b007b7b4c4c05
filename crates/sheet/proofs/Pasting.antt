-- Elements written into a list one after the other: what one store, one write and two writes in a row leave.
-- By the laws of take, drop and append. Assumes nothing.
use mathlib.Core.Path.{◌≡◌, refl, sym, ap, ◌∙◌}
use mathlib.Core.List.{List, [], ◌∷◌, ◌++◌, append_assoc}
use Prim.Native.Nat.{ℕ, ◌+◌, ◌≤◌, ◌<◌}
use native.Mathlib.Nat.{add_assoc, add-zero}
use native.Mathlib.Numerals.{add-one}
use native.Mathlib.Omega.{arith}
use lib.ListN.{length, take, drop, set, length-append, take-append-drop, length-drop}
use borrow.Rule.Slice.PartMut.{put_mid}
use lib.Seq.{set_split, length-take-le, take_at, drop-append-add, drop-drop}
use Rattle.sheet.specs.declared.text.Text.{Text}
use Rattle.sheet.specs.Private.{pasted, Writes}

-- Elements of any kind: bytes, and the floats and groups of a drawing.
module _ {A : Type 0} where
  -- A store is a write of one element.
  pub store : (d : List A) (at : ℕ) (v : A) → at < length d → set d at v ≡ pasted d at (v ∷ [])
  unfolding pasted
  store d at v h = set_split d at v h ∙ ap (λ (k : ℕ). take at d ++ v ∷ drop k d) (sym (add-one at))

  pub length_pasted : (d : List A) (at : ℕ) (vs : List A) → at + length vs ≤ length d → length (pasted d at vs) ≡ length d
  unfolding pasted
  length_pasted d at vs h =
      simp (length-append, length-drop, length-take-le at d (omega arith)) (omega arith)

  -- A copy over a part of a slice is a write.
  pub overwritten : (d vs copied : List A) (at k : ℕ) → copied ≡ vs → k ≡ length vs → put_mid at k d copied ≡ pasted d at vs
  unfolding pasted
  overwritten d vs copied at k e g =
      rw (e, g) (ap (λ (x : List A). take at d ++ (vs ++ x)) (drop-drop (length vs) at d))

  -- What stands before a write and from it on.
  pub rewritten : (d e vs : List A) (at : ℕ) → take at e ≡ take at d → drop at e ≡ vs ++ drop (at + length vs) d → e ≡ pasted d at vs
  unfolding pasted
  rewritten d e vs at h g = sym (take-append-drop at e) ∙ (λ i. h i ++ g i)

  -- Two writes, the second from the end of the first on, are one.
  pub join : (d : List A) (at : ℕ) (vs ws : List A) → at + length vs + length ws ≤ length d → pasted (pasted d at vs) (at + length vs) ws ≡ pasted d at (vs ++ ws)
  unfolding pasted
  join d at vs ws h =
      let front : length (take at d ++ vs) ≡ at + length vs = length-append (take at d) vs ∙ ap (λ (k : ℕ). k + length vs) (length-take-le at d (omega arith)) in
      let rest = drop (at + length vs) d in
      let whole : take at d ++ (vs ++ rest) ≡ (take at d ++ vs) ++ rest = sym (append_assoc (take at d) vs rest) in
      let taken : take (at + length vs) (take at d ++ (vs ++ rest)) ≡ take at d ++ vs = ap (take (at + length vs)) whole ∙ take_at (take at d ++ vs) rest (at + length vs) front in
      let left : drop (at + length vs + length ws) (take at d ++ (vs ++ rest)) ≡ drop (at + length (vs ++ ws)) d =
      ap (drop (at + length vs + length ws)) whole
      ∙ ap (λ (k : ℕ). drop (k + length ws) ((take at d ++ vs) ++ rest)) (sym front)
      ∙ drop-append-add (take at d ++ vs) rest (length ws)
      ∙ drop-drop (length ws) (at + length vs) d
      ∙ ap (λ (k : ℕ). drop k d) (add_assoc at (length vs) (length ws) ∙ ap (λ (k : ℕ). at + k) (sym (length-append vs ws))) in
      simp (taken, left, append_assoc)

  -- A store right after a write lengthens it by one.
  pub store_after : (d : List A) (at : ℕ) (vs : List A) (v : A) → at + length vs < length d → set (pasted d at vs) (at + length vs) v ≡ pasted d at (vs ++ (v ∷ []))
  store_after d at vs v h =
      store (pasted d at vs) (at + length vs) v (rw (length_pasted d at vs (omega arith)) h) ∙ join d at vs (v ∷ []) (omega arith)

  pub three_stores : (d : List A) (at : ℕ) (a b c : A) → at + 3 ≤ length d → set (set (set d at a) (at + 1) b) (at + 2) c ≡ pasted d at (a ∷ b ∷ c ∷ [])
  three_stores d at a b c h =
      ap (λ (x : List A). set (set x (at + 1) b) (at + 2) c) (store d at a (omega arith))
      ∙ ap (λ (x : List A). set x (at + 2) c) (store_after d at (a ∷ []) b (omega arith))
      ∙ store_after d at (a ∷ b ∷ []) c (omega arith)

-- A copy of a word after the text so far.
pub word_written :
    (t : Text) (w copied : List ℕ) → copied ≡ w → (k : ℕ) → k ≡ length w → t.len + length w ≤ length t.buffer.now
    → Writes t w (record { buffer = record t.buffer { now = put_mid t.len k t.buffer.now copied }; len = t.len + length w })
word_written t w copied e k g h =
    let over = overwritten t.buffer.now w copied t.len k e g in
    record { bytes = over; after = refl; kept = ap length over ∙ length_pasted t.buffer.now t.len w h; same = refl }

-- A word after the text so far, and the byte that ends it.
pub word_ended :
    (t : Text) (w e : List ℕ) (end at : ℕ) → e ≡ pasted t.buffer.now t.len w → at ≡ t.len + length w → at < length t.buffer.now
    → Writes t (w ++ (end ∷ [])) (record { buffer = record t.buffer { now = set e at end }; len = at + 1 })
word_ended t w e end at g h room =
    let whole : set e at end ≡ pasted t.buffer.now t.len (w ++ (end ∷ [])) = rw (g, h) (store_after t.buffer.now t.len w end (omega arith)) in
    let long : length (w ++ (end ∷ [])) ≡ length w + 1 = length-append w (end ∷ []) in
    record { bytes = whole; after = omega arith; kept = ap length whole ∙ length_pasted t.buffer.now t.len (w ++ (end ∷ [])) (omega arith); same = refl }

-- Text after text.
pub then : {t u v : Text} {vs ws : List ℕ} → Writes t vs u → Writes u ws v → v.len ≤ length t.buffer.now → Writes t (vs ++ ws) v
then {t} {u} {v} {vs} {ws} p q h =
    record {
      bytes = q.bytes ∙ rw (p.bytes, p.after) (join t.buffer.now t.len vs ws (omega (arith, p.after, q.after)));
      after = q.after ∙ rw p.after (add_assoc t.len (length vs) (length ws) ∙ ap (λ (k : ℕ). t.len + k) (sym (length-append vs ws)));
      kept = q.kept ∙ p.kept;
      same = q.same ∙ p.same;
    }

-- Nothing written.
pub nothing : (t : Text) → Writes t [] t
unfolding pasted
nothing t =
    record {
      bytes = sym (ap (λ (k : ℕ). take t.len t.buffer.now ++ drop k t.buffer.now) (add-zero t.len) ∙ take-append-drop t.len t.buffer.now);
      after = sym (add-zero t.len);
      kept = refl;
      same = refl;
    }
