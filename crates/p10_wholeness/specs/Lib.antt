-- The definitions that the contracts of this crate cite.
pub mod Growth
pub mod Names
pub mod Knowing
pub mod Laws
pub mod Expressions
