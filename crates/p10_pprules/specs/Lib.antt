-- The definitions that the contracts of this crate cite: those of public clauses, and in `private` those of private ones alone.
pub mod Lines
pub mod Groups
pub mod Units
pub mod Recursion
pub mod Dereferences
pub mod Violations
pub mod private
