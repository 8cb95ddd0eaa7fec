-- The definitions that the contracts of this crate cite: those of public clauses, and in `private` those of private ones alone.
pub mod Places
pub mod Shapes
pub mod Sums
pub mod Passes
pub mod Conditions
pub mod Fails
pub mod Accepting
pub mod Texts
pub mod SmallChecks
pub mod private
