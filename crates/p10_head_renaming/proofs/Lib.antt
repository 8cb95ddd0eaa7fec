-- Lemmas for this crate.
pub mod Ascending
pub mod Together
pub mod Outlines
pub mod Numbers
pub mod Names
pub mod Task
