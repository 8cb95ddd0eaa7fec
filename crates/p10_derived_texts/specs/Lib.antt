-- The definitions that the contracts of this crate cite.
pub mod Naming
pub mod Approaching
pub mod Laws
