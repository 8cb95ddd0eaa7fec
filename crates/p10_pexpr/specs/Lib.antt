-- The definitions that the contracts of this crate cite.
pub mod Heads
pub mod Fronts
pub mod Tables
pub mod Readers
pub mod DeclaratorReading
pub mod SpecifierReading
pub mod ExpressionReading
pub mod Cut
pub mod Reading
pub mod Laws
pub mod Parses
