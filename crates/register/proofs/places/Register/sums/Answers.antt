-- `sums` meets its contract: each sum is that of the places gone through. Assumes nothing.
use Rattle.std.proofs.Common.{◌≡◌, take, length, arith, ◌∙◌}
use Rattle.std.proofs.Math.Seq.{take-length}
use Rattle.register.proofs.ByNumber.{sum_counted}
use Rattle.register.proofs.places.Register.sums.Goals as goal

pub returns : goal.returns
returns c =
    let ps = c.args.self.now.places in
    let end : c.loop-pool.pool-index ≡ length ps = omega arith in
    let whole : take c.loop-pool.pool-index ps ≡ ps = rw (end, take-length) in
    let burning = rw whole at c.loop-pool.invariant.3 ∙ sum_counted (λ p. 1) ps in
    let lows = rw whole at c.loop-pool.invariant.4 ∙ sum_counted (λ p. p.low) ps in
    let highs = rw whole at c.loop-pool.invariant.5 ∙ sum_counted (λ p. p.high) ps in
    cc
