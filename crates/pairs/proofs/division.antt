-- Laws of two-word numbers.
pub mod Digits
