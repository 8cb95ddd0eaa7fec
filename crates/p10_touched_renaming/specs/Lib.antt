-- The definitions that the contract of this crate cites.
pub mod Touched
pub mod Laws
