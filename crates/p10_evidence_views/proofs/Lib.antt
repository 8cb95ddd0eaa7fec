-- Lemmas for this crate.
pub mod LoopsErased
pub mod Ranges
