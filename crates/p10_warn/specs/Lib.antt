-- The definitions that the contracts of this crate cite: those of public clauses, and in `private` those of private ones alone.
pub mod AllNodes
pub mod Naming
pub mod Conversions
pub mod Comparisons
pub mod Scopes
pub mod Jumps
pub mod Ends
pub mod Violations
pub mod SmallPrograms
pub mod private
