-- `sums` meets its contract: each sum is that of the places gone through. Assumes nothing.
use Rattle.std.proofs.Common.{◌≡◌, ◌*◌, ◌≤◌, take}
use Rattle.std.specs.Prelude.{sum_by}
use Rattle.register.proofs.ByNumber.{counted}
use Rattle.register.proofs.places.Register.sums.Given as goal

abbrev pub invariant-loop-pool : goal.invariant-loop-pool
invariant-loop-pool l =
    (l.burning ≤ l.pool-index) × (l.lows ≤ l.pool-index * 4_294_967_295) × (l.highs ≤ l.pool-index * 4_294_967_295)
    × (l.burning ≡ sum_by (counted (λ p. 1)) (take l.pool-index l.self.places))
    × (l.lows ≡ sum_by (counted (λ p. p.low)) (take l.pool-index l.self.places))
    × (l.highs ≡ sum_by (counted (λ p. p.high)) (take l.pool-index l.self.places))
