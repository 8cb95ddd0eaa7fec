-- Lemmas, by subject.
pub mod Ranges
pub mod Environments
pub mod Values
pub mod Ends
pub mod Parts
pub mod Statements
