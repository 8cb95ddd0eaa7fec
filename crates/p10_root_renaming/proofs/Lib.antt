-- Lemmas for this crate.
pub mod GrowingOutside
pub mod Addresses
pub mod Linking
pub mod Outside
pub mod Functions
pub mod Keeping
pub mod Whole
