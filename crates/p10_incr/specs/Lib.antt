-- The definitions that the contracts of this crate cite: those of public clauses, and in `private` those of private ones alone.
pub mod Alike
pub mod Edits
pub mod Rechecking
pub mod Passing
pub mod SmallEdits
pub mod Laws
pub mod private
