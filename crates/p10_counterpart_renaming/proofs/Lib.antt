-- Lemmas for this crate.
pub mod Extending
pub mod Steps
pub mod Counterparts
pub mod Roots
