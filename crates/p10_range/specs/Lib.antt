-- The definitions that the contracts of this crate cite: those of public clauses, and in `private` those of private ones alone.
pub mod Ranges
pub mod Rows
pub mod Operands
pub mod Laws
pub mod Edges
pub mod private
