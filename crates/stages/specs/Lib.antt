-- Request 13: the stages of a chain, and what is claimed of them.
pub mod Stages
pub mod Claims
