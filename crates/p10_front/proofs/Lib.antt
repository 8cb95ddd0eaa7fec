-- Lemmas of this crate.
pub mod Elaborating
pub mod Hashed
pub mod Once
pub mod Parsing
pub mod Settling
