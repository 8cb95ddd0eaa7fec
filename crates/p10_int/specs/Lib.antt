-- The definitions that the contracts of this crate cite.
pub mod Types
pub mod Conversion
pub mod Operators
pub mod Laws
