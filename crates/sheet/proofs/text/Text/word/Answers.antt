-- `word` meets its contract: the word in the place of what stood there.
-- Assumes nothing.
use Prim.Native.Nat.{◌+◌, ◌-◌}
use native.Mathlib.Omega.{arith}
use lib.ListN.{length}
use Rattle.sheet.proofs.Pasting.{word_written}
use Rattle.sheet.proofs.text.Text.word.Goals as goal

pub returns : goal.returns
returns c =
    let t = c.args.self.now in
    word_written t c.args.word.now _ c.copy_from_slice.ensures.after (t.len + length c.args.word.now - t.len) (omega arith) c.requires
