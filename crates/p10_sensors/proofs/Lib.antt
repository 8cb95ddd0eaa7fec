-- Lemmas for this crate.
pub mod Digits
pub mod FirstLines
pub mod Uniqueness
pub mod Small
