-- What the contracts of the shared input cite: the sheets of some lines; then the private vocabulary.
pub mod Sheets
pub mod Private
