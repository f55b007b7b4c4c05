-- Step 8, and with it the whole chain: the exact chain at every depth from 8 on is defined, and it overlaps what the
-- arithmetic of answers gives wherever that is no refusal. Step by step, as the chain goes. Assumes nothing.
use Prim.Native.Nat.{ℕ, ◌≤◌}
use lib.Dec.{lit<}
use lib.Signed.{non_neg}
use Rattle.pairs.specs.Answers.{answers}
use Rattle.chain.specs.declared.enquiry.Enquiry.{Enquiry}
use Rattle.chain.specs.Chain.{transmitted, configuration_factor_of, clear_flux, radiant_flux}
use Rattle.exact.specs.Depth.{exact}
use Rattle.exact.proofs.Meets.{Meets, product_meets, times_meets, over_meets}
use Rattle.exact.proofs.Factor.{factor_at_meets}
use Rattle.exact.proofs.Flame.{emissive_power_meets, relative_height_meets, relative_elevation_meets, relative_distance_meets, relative_distance_low}

-- The limits that the exact chain needs.
pub record Limits (E : Enquiry) : Type 0 where
  pub least_area : 100 ≤ E.area
  pub most_area : E.area ≤ 190_000
  pub least_distance : 1_000 ≤ E.distance

clear_flux_meets : (E : Enquiry) → Limits E → (n : ℕ) → 8 ≤ n → Meets (clear_flux answers E) (clear_flux (exact n) E)
unfolding clear_flux configuration_factor_of
clear_flux_meets E limits n deep =
    let a = limits.least_area in
    let b = limits.most_area in
    product_meets (emissive_power_meets n deep E a b)
    (factor_at_meets n deep (relative_distance_low n deep E a b limits.least_distance) (relative_height_meets n deep E a b)
    (relative_elevation_meets n deep E a b) (relative_distance_meets n deep E a b) (non_neg E.height) E.face)

pub radiant_flux_meets : (E : Enquiry) → Limits E → (n : ℕ) → 8 ≤ n → Meets (radiant_flux answers E) (radiant_flux (exact n) E)
unfolding radiant_flux transmitted
radiant_flux_meets E limits n deep = over_meets (times_meets (clear_flux_meets E limits n deep) E.transmissivity) 1000 (lit< tt)
