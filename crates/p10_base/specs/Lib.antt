-- The definitions that the contracts of this crate cite.
pub mod Codes
pub mod Gathered
pub mod Hex
pub mod Names
pub mod Order
pub mod Places
pub mod Words
pub mod formers
