-- Lemmas for this crate.
pub mod Making
pub mod Lines
