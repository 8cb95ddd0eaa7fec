-- The definitions that the contracts of this crate cite: those of public clauses, and in `private` those of private ones alone.
pub mod Selections
pub mod CallSites
pub mod CallGraphs
pub mod Recursion
pub mod Ranks
pub mod Faults
pub mod Samples
pub mod Laws
pub mod private
