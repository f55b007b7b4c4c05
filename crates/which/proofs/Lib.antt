pub mod InOrder
pub mod NextFrom
pub mod UntilOver
pub mod GoingIn
