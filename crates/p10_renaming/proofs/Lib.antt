-- Lemmas for this crate.
pub mod Widths
pub mod Erasing
