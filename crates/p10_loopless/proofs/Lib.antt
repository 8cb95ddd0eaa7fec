-- Lemmas for this crate.
pub mod Faces
pub mod Values
pub mod Calls
pub mod Manners
pub mod Parts
pub mod Statements
pub mod Bodies
pub mod Costs
pub mod Sums
pub mod Whole
