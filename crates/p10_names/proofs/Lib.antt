-- Lemmas, by subject.
pub mod Spelled
pub mod Definitions
pub mod Words
pub mod Trees
pub mod Elaborated
pub mod Named
pub mod Readings
