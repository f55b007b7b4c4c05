-- Requests 7 and 9 of document 02, in its order: a scenario, its stand-off from a limit, and what is claimed of it; distances from the
-- centre and from the rim, a grid, its first free place, and what is claimed of it. Then the private vocabulary.
pub mod Scenario
pub mod StandOff
pub mod Claims
pub mod Distance
pub mod Grid
pub mod FreePlace
pub mod PlaceClaims
pub mod Private
