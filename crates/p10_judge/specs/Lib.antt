-- The definitions that the contracts of this crate cite: those of public clauses, and in `private` those of private ones alone.
pub mod Loading
pub mod Kept
pub mod Ranks
pub mod Judging
pub mod Whole
pub mod Saying
pub mod Laws
pub mod private
