-- The definitions that the contracts of this crate cite.
pub mod Knowing
pub mod Laws
