-- Request 4 of document 02, in its order: floats and their values, the ends of one enquiry and the group of a target, the groups of a
-- sheet, by value and in a lent slice, and what is claimed of all of them; then the private vocabulary.
pub mod Floats
pub mod Figures
pub mod Groups
pub mod Lent
pub mod Claims
pub mod Private
