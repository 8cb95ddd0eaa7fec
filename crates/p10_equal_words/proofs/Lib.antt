-- Lemmas for this crate.
pub mod Settled
pub mod Regular
pub mod Together
pub mod Widths
pub mod Joining
pub mod Rechecking
pub mod Completed
