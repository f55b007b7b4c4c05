-- `ends_in` meets its contract: a state that is not 0 refuses, and low and high follow it.
-- Assumes nothing.
use mathlib.Core.Path.{◌≡◌, sym}
use mathlib.Core.List.{List}
use Prim.Native.Nat.{ℕ, ◌+◌, ◌*◌}
use native.Mathlib.Omega.{arith}
use lib.ListN.{get_or}
use Rattle.sheet.specs.Bytes.{one, two, four}
use Rattle.drawing.specs.Floats.{float}
use Rattle.drawing.specs.Private.{shown_in}
use Rattle.drawing.proofs.Ends.{answered, refused}
use Rattle.drawing.proofs.answers.ends_in.Goals as goal

pub returns-then-state-ne0 : goal.returns-then-state-ne0
unfolding shown_in one
returns-then-state-ne0 c = sym (refused (shown_in c.args.answer.now 0) c.if-state-ne0.true)

-- the library's number of four bytes is two numbers of two
low_is : (s : List ℕ) (n : ℕ) → n ≡ get_or s 1 0 * 16777216 + get_or s 2 0 * 65536 + get_or s 3 0 * 256 + get_or s 4 0 → n ≡ four s 1
unfolding four two
low_is s n e = omega arith

high_is : (s : List ℕ) (n : ℕ) → n ≡ get_or s 5 0 * 16777216 + get_or s 6 0 * 65536 + get_or s 7 0 * 256 + get_or s 8 0 → n ≡ four s 5
unfolding four two
high_is s n e = omega arith

pub returns : goal.returns
unfolding shown_in one float
returns c =
    rw (low_is c.args.answer.now _ c.from_be_bytes-low.ensures, high_is c.args.answer.now _ c.from_be_bytes-high.ensures) (sym (answered (shown_in c.args.answer.now 0) c.if-state-ne0.false))
