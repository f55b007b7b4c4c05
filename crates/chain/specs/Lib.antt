-- Document 01, in its order: the chain, how a group of tests refuses, and the refusals of one flux and of a factor alone; then the private vocabulary.
pub mod Chain
pub mod Tests
pub mod Flux
pub mod Factor
pub mod Private
