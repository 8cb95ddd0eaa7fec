-- The definitions that the contracts of this crate cite: those of public clauses, and in `private` those of private ones alone.
pub mod Table
pub mod Undefining
pub mod Uses
pub mod Endings
pub mod Ends
pub mod Left
pub mod Fronts
pub mod Answers
pub mod Known
pub mod private
