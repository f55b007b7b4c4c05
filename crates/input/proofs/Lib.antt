-- Laws of the lines that several answers use.
pub mod Lines
