-- The definitions that the contracts of this crate cite: those of public clauses, and in `private` those of private ones alone.
pub mod Parts
pub mod Assertions
pub mod Pointers
pub mod Functions
pub mod Violations
pub mod Examples
pub mod Laws
pub mod private
