-- What one byte more does to the lines, by its kind. Assumes nothing.
use Rattle.std.proofs.Common.{◌≡◌, ℕ, ◌+◌, ◌*◌, ◌<◌, ◌≤◌, List, [], ◌∷◌, ◌++◌, take, length, length-append, Ok, Err, OnOk, OnErr, IsOk, None, Some, refl, sym, ap, ◌∙◌, subst, arith, take_all}
use Rattle.std.proofs.lemmas.Bool.{lt-ltb, le-ltb, ne_eqb}
use Rattle.std.proofs.lemmas.Fn.{FoldsTo-push}
use Rattle.std.proofs.lemmas.List.{take-append-le}
use Rattle.arrayvec.specs.ArrayVec.{ArrayVec}
use Rattle.std.specs.Char.{digit_value}
use Rattle.std.specs.Fn.{CalledAt}
use Rattle.std.specs.List.{FoldsTo}
use Rattle.std.specs.declared.option.Option.{Option}
use Rattle.std.specs.declared.result.Result.{Result}
use denote.Param.Members.{Mut}
use denote.Ref.{Bor}
use Rattle.input.specs.declared.sheets.Line.{Line}
use Rattle.input.specs.Sheets.{room, Lines, with_digit, with_byte}
use Rattle.input.specs.Private.{Given}

-- ---- the lines after a line feed, after a digit and after any other byte
pub after_feed : (l : Lines) → with_byte l 10 ≡ record { ended = l.ended ++ l.sheet ∷ []; sheet = []; half = None }
unfolding with_byte
after_feed l = refl

pub after_other : (l : Lines) (b : ℕ) → (b ≡ 10 → ⊥) → 16 ≤ digit_value b → with_byte l b ≡ l
unfolding with_byte
after_other l b e f = rw (ne_eqb b 10 e, le-ltb (digit_value b) 16 f)

after_digit : (l : Lines) (b : ℕ) → (b ≡ 10 → ⊥) → digit_value b < 16 → with_byte l b ≡ with_digit l.ended l.sheet l.half (digit_value b)
unfolding with_byte
after_digit l b e f = rw (ne_eqb b 10 e, lt-ltb (digit_value b) 16 f)

pub after_first : (l : Lines) (b digit : ℕ) → (b ≡ 10 → ⊥) → (digit_value b < 16) × (digit ≡ digit_value b) → l.half ≡ None
    → with_byte l b ≡ record { ended = l.ended; sheet = l.sheet; half = Some digit }
after_first l b digit e h none = rw (after_digit l b e h.0, none, h.1) refl

pub after_second : (l : Lines) (b first digit : ℕ) (sheet : List ℕ) (half : Option ℕ) → (b ≡ 10 → ⊥) → (digit_value b < 16) × (digit ≡ digit_value b)
    → l.half ≡ Some first → sheet ≡ take room (l.sheet ++ (16 * first + digit) ∷ []) → half ≡ None → with_byte l b ≡ record { ended = l.ended; sheet = sheet; half = half }
after_second l b first digit sheet half e h some pushed none = rw (after_digit l b e h.0, some, pushed, none, h.1) refl

-- The sheet that a line feed ends is given after those that had ended.
pub feed_calls : {F E : Type 0} (g : Mut F (Bor (List ℕ) × Unit {0}) (Result (Unit {0}) E)) (f : F) (l : Lines) (line : Line) (each each' : F) → Given g f l line each
    → CalledAt g each line.sheet.items (Ok tt) each' → FoldsTo (λ p sheet q. CalledAt g p sheet (Ok tt) q) f (l.ended ++ l.sheet ∷ []) each'
feed_calls g f l line each each' given call = FoldsTo-push _ f l.ended each l.sheet each' given.calls (subst (λ s. CalledAt g each s (Ok tt) each') given.sheet call)

-- A byte is pushed where there is room, and dropped where there is none.
pub pushed : {E : Type 0} (r : Result (Unit {0}) E) (old new : ArrayVec ℕ) (b : ℕ) → (IsOk r → length old.items < room)
    → OnOk r (new.items ≡ old.items ++ b ∷ []) → OnErr r (new ≡ old) → OnErr r (length old.items ≡ room) → new.items ≡ take room (old.items ++ b ∷ [])
pushed (Ok u) old new b fits ok err full = ok ∙ sym (take_all room (old.items ++ b ∷ []) (omega (arith, length-append old.items (b ∷ []), fits refl)))
pushed (Err e) old new b fits ok err full =
    ap (λ v. v.items) err ∙ sym (take-append-le room old.items (b ∷ []) (omega (arith, full)) ∙ take_all room old.items (omega (arith, full)))
