-- Lemmas for this crate.
pub mod Finding
pub mod Sameness
pub mod Types
pub mod Values
pub mod Rows
pub mod Operands
pub mod Operators
pub mod Calls
pub mod TypeNames
pub mod Judging
pub mod Assigning
