-- Document 01, "Depth n" and demand 3: fractions, the exact arithmetic, the statement.
pub mod Fraction
pub mod Depth
pub mod Demand
