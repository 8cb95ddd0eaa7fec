-- Lemmas for this crate.
pub mod Pairs
pub mod Measured
pub mod Walks
pub mod Domain
pub mod Stands
