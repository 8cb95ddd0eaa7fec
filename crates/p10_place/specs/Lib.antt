-- The definitions that the contracts of this crate cite: those of public clauses, and in `private` those of private ones alone.
pub mod Roots
pub mod Standing
pub mod StatementStanding
pub mod Laws
pub mod Examples
pub mod private
