-- The definitions that the contracts of this crate cite: those of public clauses, and in `private` those of private ones alone.
pub mod Budgets
pub mod WholeRuns
pub mod private
