-- Lemmas for this crate.
pub mod Heads
pub mod Begun
pub mod Leaving
pub mod Touched
