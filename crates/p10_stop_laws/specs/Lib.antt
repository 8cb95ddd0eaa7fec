-- The definitions that the laws of this crate cite.
pub mod Operators
pub mod Moves
pub mod Access
pub mod Causes
pub mod Names
