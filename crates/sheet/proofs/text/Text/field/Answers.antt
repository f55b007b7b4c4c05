-- `field` meets its contract: one digit as a word with its end, or the library's digits in their places and then the byte that ends them.
-- Assumes nothing.
use mathlib.Core.Path.{◌≡◌, ap}
use native.Mathlib.Omega.{arith}
use lib.ListN.{length}
use Rattle.std.specs.Fmt as std
use Rattle.sheet.specs.Report.{decimal, field}
use Rattle.sheet.proofs.Digits.{one_digit, decimal_is}
use Rattle.sheet.proofs.Pasting.{rewritten, word_ended}
use Rattle.sheet.proofs.text.Text.field.Goals as goal

pub word-requires : goal.word-requires
word-requires c = omega (arith, ap length (one_digit c.args.n c.if-n-lt10.true))

pub returns-then-n-lt10 : goal.returns-then-n-lt10
unfolding field
returns-then-n-lt10 c = rw (one_digit c.args.n c.if-n-lt10.true) c.word.ensures

pub write_digits-self-requires : goal.write_digits-self-requires
write_digits-self-requires c = (omega (arith, ap length (decimal_is c.args.n (omega arith))), omega arith)

pub returns : goal.returns
unfolding field
returns c =
    let t = c.args.self.now in
    let w = c.write_digits-self in
    let same : std.decimal c.args.n ≡ decimal c.args.n = decimal_is c.args.n (omega arith) in
    let start : w.result ≡ t.len = omega (arith, ap length same) in
    let written = rewritten t.buffer.now w.new.buf (decimal c.args.n) t.len (rw start at w.ensures.before) (rw (start, same, c.digit_count.ensures) at w.ensures.written) in
    word_ended t (decimal c.args.n) w.new.buf c.args.end _ written (omega arith) (omega arith)
