-- Lemmas for this crate.
pub mod Standing
