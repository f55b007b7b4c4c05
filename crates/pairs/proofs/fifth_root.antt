-- Laws of the fifth root.
pub mod Powers
