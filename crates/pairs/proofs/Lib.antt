-- Laws of the definitions that no single function owns.
pub mod Rounding
pub mod Search
pub mod FifthPower
pub mod Ordered
pub mod Kept
pub mod Tests
pub mod Agreement
pub mod Running
pub mod Turned
pub mod Terms
pub mod Turns
pub mod Refusals
pub mod Lifted
pub mod Covers
pub mod WholeRoot
pub mod PiPair
