-- The lemmas of this crate.
pub mod Fronts
mod Pieces
mod Readings
