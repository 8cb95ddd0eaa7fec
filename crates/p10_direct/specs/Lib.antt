-- The definitions that the contracts of this crate cite: those of public clauses, and in `private` those of private ones alone.
pub mod Keywords
pub mod Lines
pub mod Balance
pub mod Directives
pub mod Form
pub mod Tokens
pub mod Operators
pub mod Constants
pub mod Values
pub mod Conditions
pub mod Cutting
pub mod private
