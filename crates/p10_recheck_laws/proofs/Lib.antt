-- Lemmas for this crate.
pub mod Telling
