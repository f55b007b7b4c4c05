-- The figures of an accepted enquiry are small whole numbers, the low at most the high. From the range of q. Assumes nothing.
use mathlib.Core.Path.{◌≡◌}
use Prim.Native.Nat.{ℕ, ◌≤◌}
use native.Mathlib.Omega.{arith}
use Rattle.pairs.specs.Rounded.{up, down}
use Rattle.chain.specs.declared.enquiry.Enquiry.{Enquiry}
use Rattle.chain.specs.Flux.{low_of, high_of, flux_of}
use Rattle.chain.proofs.Limits.{limited, shown, accepted_tested}
use Rattle.chain.proofs.Unrefused.{unrefused}

pub record Small (low high : ℕ) : Type 0 where
  pub ordered : low ≤ high
  pub most : high ≤ 6_300_000

pub small : (E : Enquiry) → (flux_of E).state ≡ 0 → Small (flux_of E).low (flux_of E).high
unfolding low_of high_of up down
small E e =
    let t = accepted_tested E e in
    let q = unrefused E (limited E t) in
    rw (shown E t) (record { ordered = omega (arith, q.ordered); most = omega (arith, q.high) })
