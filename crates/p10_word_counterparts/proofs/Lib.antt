-- Lemmas for this crate.
pub mod Typing
