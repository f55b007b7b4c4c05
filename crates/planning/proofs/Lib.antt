-- Laws of the definitions that no single function owns: of the stand-off, then of the first free place.
pub mod Every
pub mod Nearest
pub mod SameState
pub mod Outcomes
pub mod PairAt
pub mod Claims
pub mod Examples
pub mod Radius
pub mod GridLimits
pub mod Walk
pub mod PlaceOutcomes
pub mod AskedThere
pub mod PlaceClaims
pub mod PlaceExamples
pub mod Returned
