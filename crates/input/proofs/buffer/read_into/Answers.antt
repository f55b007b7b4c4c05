-- What a read gave is what it consumed, and stands behind what was there.
use Rattle.std.proofs.Common.{◌≡◌, ℕ, ◌+◌, ◌-◌, ◌≤◌, List, ◌++◌, rules, length, take, ap, sym, ◌∙◌, subst, le_refl, drop, drop_at, length-take-le}
use Rattle.std.proofs.lemmas.Slice.{take-put_mid_below}
use Rattle.std.specs.Io.KnownBytes.{Consumes}
use Rattle.std.proofs.KnownBytes.{Consumes-trans}
use borrow.Rule.Slice.PartMut.{put_mid, post_of}
use lib.Seq.{take-add, take-append-le}
use Rattle.input.proofs.buffer.read_into.Goals as goal

-- n bytes written from `at` on stand there.
stands : (at n : ℕ) (buffer piece : List ℕ) → at ≤ length buffer → n ≤ length piece
    → take at buffer ++ take n piece ≡ take (at + n) (put_mid at (length buffer - at) buffer piece)
stands at n buffer piece within fits =
    let k = length buffer - at in
    let new = put_mid at k buffer piece in
    let front = take-put_mid_below at k buffer piece at (le_refl at) within in
    let behind = ap (take n) (drop_at (take at buffer) (piece ++ post_of at k buffer) at (length-take-le at buffer within)) ∙ take-append-le n piece (post_of at k buffer) fits in
    sym (take-add at n new ∙ ap (λ l. l ++ take n (drop at new)) front ∙ ap (λ l. take at buffer ++ l) behind)

pub loop-filled-preserved : goal.loop-filled-preserved
loop-filled-preserved g c =
    let l = c.loop-filled in
    (search rules, search rules, subst (Consumes _ _) (stands l.filled c.in_ok-n.n l.buffer c.read.new.buf l.invariant.1 c.in_ok-n.ensures.bound.0) (Consumes-trans _ _ _ _ _ l.invariant.2 c.in_ok-n.ensures.bytes.0))
