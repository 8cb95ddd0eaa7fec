-- The definitions that the contracts of this crate cite, each on those above it.
pub mod Approaches
pub mod Approaching
pub mod Offers
