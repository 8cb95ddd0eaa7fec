-- Lemmas of this crate.
pub mod Numbering
