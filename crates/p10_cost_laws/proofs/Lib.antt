-- Lemmas by subject.
pub mod Taking
pub mod Values
pub mod Statements
