-- The definitions that the contracts of this crate cite, each on those above it.
pub mod Scoping
pub mod Standing
pub mod Leaving
pub mod Bounding
pub mod Laws
