-- Lemmas for this crate.
pub mod Building
pub mod BuildingOutside
