-- One name that opens all that a sweep computes with: the operations of bounds, the series, the steps.
-- Assumes nothing.
use Rattle.pairs.specs.Rounded.{up, down, fifth_power_up, fifth_power_down}
use Rattle.pairs.specs.Series.{plus_terms, minus_terms, alternating, power, arc_term, arc, half_angle, pi, exp_term, squared, exp_series, exp_neg, total, h_of, h_series, ln_ten}
use Rattle.pairs.proofs.FifthPower.{loss}
use Rattle.pairs.proofs.Running.{arc_from, arc_run, atan_run}
use Rattle.chain.specs.Chain.{x, g, r, most_exposed, diameter, radius, optical_depth, unabsorbed, burning, flame_height, emissive_power_1, radiant_fraction, flame_surface, emissive_power_2, froude_number, equal_factors, power_61_hundredths, flame_height_3, unobscured, emissive_power_3, in_radii, diameter_of, unabsorbed_of, heat_release_of, burning_rate_of, froude_number_of}
use Rattle.chain.proofs.Bounds.{bound, constant, sum, difference, product, quotient, times, over, first_passing, newton, root_guess, root_below, root_above, root, fifth_newton, fifth_root_guess, fifth_root_below, fifth_root_above, fifth_root_width, fifth_root, exposed, high_only, spanning, at_most_one, at_most_a_third, below_256, or_cold, unless_cold}
use Rattle.chain.proofs.FactorRun.{row_run, faces_run}
use Rattle.chain.proofs.Boxes.{passing}
use Rattle.chain.proofs.Sweep.{sweep}

unfoldable pub opened : Unit {0}
unfolding up down fifth_power_up fifth_power_down loss bound constant sum difference product quotient times over first_passing newton root_guess root_below root_above root fifth_newton fifth_root_guess fifth_root_below fifth_root_above fifth_root_width fifth_root exposed high_only spanning at_most_one at_most_a_third below_256 or_cold unless_cold plus_terms minus_terms alternating power arc_term arc half_angle pi exp_term squared exp_series exp_neg total h_of h_series ln_ten arc_from arc_run atan_run x g r most_exposed diameter radius optical_depth unabsorbed burning flame_height emissive_power_1 radiant_fraction flame_surface emissive_power_2 froude_number equal_factors power_61_hundredths flame_height_3 unobscured emissive_power_3 in_radii diameter_of unabsorbed_of heat_release_of burning_rate_of froude_number_of row_run faces_run passing sweep
opened = tt
