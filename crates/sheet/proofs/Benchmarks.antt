-- The benchmarks of document 01, A to J, as one theorem. Roots are named by the laws of their searches; the rest computes.
-- Assumes nothing.
use mathlib.Core.Path.{◌≡◌, refl}
use Prim.Native.Nat.{◌*◌}
use lib.Dec.{lit<, lit≤}
use Rattle.pairs.specs.Rounded as rounded
use Rattle.pairs.specs.Rounded.{U, ends, root_down, root_up, fifth_root_down, fifth_root_up, fifth_power_up, fifth_power_down, up, down}
use Rattle.pairs.specs.Figures.{given}
use Rattle.pairs.specs.Answers.{fitting, product_of, quotient_of, difference_of, root_of, fifth_root_of}
use Rattle.pairs.proofs.Search.{root_down_is, root_up_is, fifth_root_down_is, fifth_root_up_is}
use Rattle.sheet.specs.Bytes.{two}
use Rattle.sheet.specs.Reading.{fuels_of, pools_of, targets_of, fuel_index, pool_index, some, no_fuel, no_pool, section, after_sections, from_targets, from_pools, reading_of}
use Rattle.sheet.specs.Benchmarks.{whole, Benchmarks}

root_of_4 : root_of (whole 4) ≡ given (whole 2)
unfolding root_of fitting rounded.root
root_of_4 =
    let low : root_down (4 * U * U) ≡ 2 * U = root_down_is (4 * U * U) (2 * U) (lit≤ tt) (lit< tt) in
    let high : root_up (4 * U * U) ≡ 2 * U = root_up_is (4 * U * U) 1_999_999_999_999 (lit< tt) (lit≤ tt) in
    rw (low, high)

root_of_2 : root_of (whole 2) ≡ given (ends 1_414_213_562_373 1_414_213_562_374)
unfolding root_of fitting rounded.root
root_of_2 =
    let low : root_down (2 * U * U) ≡ 1_414_213_562_373 = root_down_is (2 * U * U) 1_414_213_562_373 (lit≤ tt) (lit< tt) in
    let high : root_up (2 * U * U) ≡ 1_414_213_562_374 = root_up_is (2 * U * U) 1_414_213_562_373 (lit< tt) (lit≤ tt) in
    rw (low, high)

fifth_low : fifth_root_down (32 * U) ≡ 2 * U
unfolding fifth_power_up up
fifth_low = fifth_root_down_is (32 * U) (2 * U) (lit≤ tt) (lit< tt)

fifth_high : fifth_root_up (32 * U) ≡ 2 * U
unfolding fifth_power_down down
fifth_high = fifth_root_up_is (32 * U) 1_999_999_999_999 (lit< tt) (lit≤ tt)

fifth_root_of_32 : fifth_root_of (whole 32) ≡ given (whole 2)
unfolding fifth_root_of fitting rounded.fifth_root
fifth_root_of_32 = rw (fifth_low, fifth_high)

pub benchmarks : Benchmarks
unfolding fitting product_of quotient_of difference_of rounded.product rounded.quotient rounded.difference up down two fuels_of pools_of targets_of fuel_index pool_index some no_fuel no_pool section after_sections from_targets from_pools reading_of
benchmarks =
    record {
      A = root_of_4;
      B = root_of_2;
      C = fifth_root_of_32;
      D = refl;
      E = refl;
      F = refl;
      G = refl;
      H = refl;
      I = refl;
      J = refl;
    }
