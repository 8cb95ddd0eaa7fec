-- The definitions that the contracts of this crate cite.
pub mod Scopes
pub mod Claiming
pub mod Arguments
pub mod Passing
pub mod Findings
pub mod Marks
pub mod Leaving
pub mod Manners
pub mod Rounds
pub mod SmallPasses
pub mod private
