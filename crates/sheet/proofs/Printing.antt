-- The text: a line of five fields, the lines one after the other, and which case of the definition holds.
-- By the laws of writes in a row and the number of digits. Assumes nothing.
use mathlib.Core.Path.{◌≡◌, refl, ap, ◌∙◌}
use mathlib.Core.Bool.{Bool, true, false}
use mathlib.Core.List.{List, ◌++◌}
use Prim.Native.Nat.{ℕ, ◌+◌, ◌^◌, ◌≤◌, ◌<◌}
use native.Mathlib.Numerals.{add-one}
use native.Mathlib.Omega.{arith}
use lib.ListN.{length, drop, length-append, length-drop}
use lib.Dec.{ltb}
use borrow.Author.Tests.{lt-ltb, le-ltb}
use Rattle.chain.specs.Flux.{Shown}
use Rattle.sheet.specs.declared.reading.Counts.{Counts}
use Rattle.sheet.specs.declared.reading.Fault.{Fault}
use Rattle.std.specs.Prelude.{Ok, Err}
use Rattle.sheet.specs.declared.text.Text.{Text}
use Rattle.sheet.specs.Reading.{Outcome, outcome, number_of, refused, reading_of}
use Rattle.sheet.specs.Target.{shown_of}
use Rattle.sheet.specs.Report.{decimal, field, space, line_feed, line, lines, targets_word, sheet_word, figures_text, refused_text, text_after, text_of, report_room, either, printed, report_of}
use Rattle.sheet.specs.Private.{pasted, Writes}
use Rattle.sheet.proofs.Pasting.{then, nothing}
use Rattle.sheet.proofs.Digits.{few_digits}
use Rattle.sheet.proofs.Sections.{by_number}

-- Numbers that fit their types have few digits.
pub record Short (i : ℕ) (a : Shown) : Type 0 where
  pub index : length (decimal i) ≤ 3
  pub state : length (decimal a.state) ≤ 3
  pub low : length (decimal a.low) ≤ 10
  pub high : length (decimal a.high) ≤ 10
  pub note : length (decimal a.note) ≤ 3

pub short : (i : ℕ) (a : Shown) → i < 1000 → a.state < 256 → a.low < 2 ^ 32 → a.high < 2 ^ 32 → a.note < 256 → Short i a
short i a h s l m n =
    record {
      index = few_digits 2 i h;
      state = few_digits 2 a.state (omega arith);
      low = few_digits 9 a.low (omega arith);
      high = few_digits 9 a.high (omega arith);
      note = few_digits 2 a.note (omega arith);
    }

pub line_put :
    {t u₁ u₂ u₃ u₄ u₅ : Text} (i : ℕ) (a : Shown) → u₅.len ≤ length t.buffer.now
    → Writes t (field i space) u₁ → Writes u₁ (field a.state space) u₂ → Writes u₂ (field a.low space) u₃
    → Writes u₃ (field a.high space) u₄ → Writes u₄ (field a.note line_feed) u₅
    → Writes t (line i a) u₅
unfolding line
line_put i a h p q r s t = then (then (then (then p q (omega arith)) r (omega arith)) s (omega arith)) t h

-- The lines so far, and one more.
pub no_lines : (s : List ℕ) (t : Text) → Writes t (lines s 0) t
unfolding lines
no_lines s t = nothing t

pub one_line :
    {t u v : Text} (s : List ℕ) (i : ℕ) (a : Shown) → Writes t (lines s i) u → Writes u (line i a) v → a ≡ shown_of s i
    → v.len ≤ length t.buffer.now → Writes t (lines s (i + 1)) v
unfolding lines
one_line s i a p q g h = rw (add-one i, ← g) (then p q h)

-- The first line, and what follows it.
pub figures_put :
    {t u v w : Text} (s : List ℕ) (n : ℕ) → Writes t targets_word u → Writes u (field n line_feed) v → Writes v (lines s n) w → w.len ≤ length t.buffer.now
    → Writes t (figures_text s n) w
unfolding figures_text
figures_put s n p q r h = then (then p q (omega arith)) r h

pub refusal_put : {t u v : Text} (n : ℕ) → Writes t sheet_word u → Writes u (field n line_feed) v → v.len ≤ length t.buffer.now → Writes t (refused_text n) v
unfolding refused_text
refusal_put n p q h = then p q h

-- The cases of the definition.
pub text_refused : (s : List ℕ) (why : Fault) → outcome (Err why) ≡ reading_of s → refused_text (number_of why) ≡ text_of s
unfolding text_of
text_refused s why e =
    by_number (λ n. refused_text n ≡ text_after (refused n) s) (λ k. refl) why ∙ ap (λ (o : Outcome). text_after o s) e

pub text_accepted : (s : List ℕ) (n : Counts) → outcome (Ok n) ≡ reading_of s → figures_text s n.targets ≡ text_of s
unfolding text_of
text_accepted s n e = ap (λ (o : Outcome). text_after o s) e

pub too_short : (s out : List ℕ) → length out < report_room → record { count = 0; bytes = out } ≡ report_of s out
unfolding report_of
too_short s out h = rw (lt-ltb (length out) report_room h)

pub printed_whole :
    (s out last : List ℕ) (n : ℕ) → report_room ≤ length out → last ≡ pasted out 0 (text_of s) → n ≡ 0 + length (text_of s)
    → record { count = n; bytes = last } ≡ report_of s out
unfolding report_of pasted
printed_whole s out last n h e g =
    let past : 0 + length (text_of s) ≡ length (text_of s) = omega arith in
    rw (le-ltb (length out) report_room h)
    (λ j. record { count = (g ∙ past) j; bytes = (e ∙ ap (λ (k : ℕ). text_of s ++ drop k out) past) j })

-- What was written fits the buffer, since the buffer keeps its length.
fits_choice :
    (b : Bool) (text out last : List ℕ) → last ≡ (either b (record { count = 0; bytes = out }) (printed text out)).bytes → length last ≡ length out
    → (either b (record { count = 0; bytes = out }) (printed text out)).count ≤ length out
fits_choice true text out last e h = omega arith
fits_choice false text out last e h = omega (arith, ap length e ∙ length-append text (drop (length text) out), length-drop (length text) out)

pub report_fits : (s out last : List ℕ) → last ≡ (report_of s out).bytes → length last ≡ length out → (report_of s out).count ≤ length out
unfolding report_of
report_fits s out last e h = fits_choice (ltb (length out) report_room) (text_of s) out last e h
