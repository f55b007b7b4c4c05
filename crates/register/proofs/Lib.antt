pub mod ByNumber
pub mod FirstPlace
pub mod Outcomes
