-- The definitions that the contracts of this crate cite.
pub mod Abstract
pub mod Environments
pub mod Operators
pub mod Comparing
pub mod Assessing
pub mod Entering
pub mod Assuming
pub mod Branches
pub mod Describing
pub mod Trails
pub mod Examples
pub mod private
