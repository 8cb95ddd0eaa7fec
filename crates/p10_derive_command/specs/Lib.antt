-- The definitions that the contracts of this crate cite: those of public clauses, and in `private` those of private ones alone.
pub mod Ranks
pub mod Answers
pub mod Laws
pub mod private
