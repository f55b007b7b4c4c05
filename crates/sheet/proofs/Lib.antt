-- Laws of the definitions that no single function owns.
pub mod Pasting
pub mod Digits
pub mod Sections
pub mod Places
pub mod Lending
pub mod Filling
pub mod Printing
pub mod Longest
pub mod Former
pub mod Own
pub mod Benchmarks
