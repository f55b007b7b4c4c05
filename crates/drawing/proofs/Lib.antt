-- Laws of the definitions that no single function owns.
pub mod Values
pub mod Plain
pub mod Ends
pub mod Accepted
pub mod Listing
pub mod Bytes
pub mod Longest
pub mod Claims
