-- Order and roots of fractions; overlap kept by each operation; series; steps 1 to 8; clear air; demand 3.
pub mod Order
pub mod Root
pub mod Overlap
pub mod Sound
pub mod Passing
pub mod Meets
pub mod Spans
pub mod Alternating
pub mod Arc
pub mod Exp
pub mod LnTen
pub mod Flame
pub mod Factor
pub mod Flux
pub mod Haze
pub mod Demand3
pub mod Answered
