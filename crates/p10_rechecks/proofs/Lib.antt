-- Lemmas for this crate.
pub mod Kept
pub mod Callers
pub mod Accepted
pub mod Wholly
