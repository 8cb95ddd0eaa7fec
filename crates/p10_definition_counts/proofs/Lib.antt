-- Lemmas for this crate.
pub mod Counting
pub mod Growing
pub mod Naming
