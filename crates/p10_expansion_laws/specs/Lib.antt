-- The definitions that the laws of this crate cite.
pub mod Samples
pub mod Existing
pub mod Staying
pub mod Placed
