-- The definitions that the contracts of this crate cite.
pub mod Candidates
pub mod Approaches
pub mod Trials
pub mod Offering
pub mod private
