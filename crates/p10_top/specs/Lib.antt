-- The definitions that the contracts of this crate cite: those of public clauses, and in `private` those of private ones alone.
pub mod Commands
pub mod Told
pub mod Headline
pub mod Completeness
pub mod Laws
pub mod private
