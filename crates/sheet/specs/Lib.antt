-- Document 01, "Sheet and fill", "Reading a sheet" and "Fill": the layout, reading, the fill, and what the desk prints.
pub mod Layout
pub mod Bytes
pub mod Reading
pub mod Target
pub mod Lent
pub mod Fill
pub mod Report
pub mod Benchmarks
pub mod Private
