-- Lemmas for this crate and those above it.
pub mod Stopping
pub mod Written
pub mod Values
