-- The definitions that the contracts of this crate cite, each on those above it.
pub mod Counting
pub mod Costs
pub mod Depths
pub mod Sums
pub mod Worked
pub mod Keeping
pub mod Laws
pub mod CallLaws
pub mod private
