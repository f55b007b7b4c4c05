-- Request 10 of document 02: the register and its places, how many pools burn and their sums, the calls. What lists of calls come to is in
-- the crate `history`.
pub mod Places
pub mod Sums
pub mod Calls
