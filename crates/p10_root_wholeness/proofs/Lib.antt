-- Lemmas for this crate.
pub mod BuildingOutside
pub mod KeepingOutside
pub mod Together
pub mod Limits
