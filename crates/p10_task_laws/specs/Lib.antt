-- The definitions that the laws of this crate cite.
pub mod Turns
pub mod Answers
pub mod Samples
