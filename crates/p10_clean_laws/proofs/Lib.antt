-- Lemmas by subject.
pub mod Testing
pub mod Arithmetic
pub mod Shifting
