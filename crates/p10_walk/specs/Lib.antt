-- The definitions that the contracts of this crate cite, each on those above it.
pub mod Operations
pub mod Walking
pub mod Leaving
pub mod Soundness
pub mod Turns
pub mod Ranges
pub mod Laws
pub mod SmallWalks
pub mod private
