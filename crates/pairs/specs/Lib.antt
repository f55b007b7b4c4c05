-- Document 01, in its order: pairs of trillionths, the series, and the refusals of one pair operation.
pub mod Search
pub mod Arithmetic
pub mod Rounded
pub mod Series
pub mod Figures
pub mod Answers
pub mod Private
