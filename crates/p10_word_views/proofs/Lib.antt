-- Lemmas for this crate.
pub mod Keeping
pub mod Joining
