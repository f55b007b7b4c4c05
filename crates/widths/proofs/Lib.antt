-- A flame that is not too low; a fine sweep over y and e; the factor of a face at a height; q; low and high as printed.
pub mod HighFlame
pub mod FineSweep
pub mod FactorWidths
pub mod FluxWidths
pub mod Printed
