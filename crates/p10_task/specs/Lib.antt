-- The definitions that the contracts of this crate cite, each on those above it.
pub mod Coming
pub mod Covering
pub mod Laws
