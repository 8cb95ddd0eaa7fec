-- The definitions that the contracts of this crate cite, each on those above it.
pub mod Bounds
pub mod Differences
pub mod Expressions
pub mod Domain
pub mod Listed
pub mod Knowing
pub mod Halves
pub mod Evidence
pub mod Ranked
pub mod Laws
pub mod SmallDifferences
pub mod private
