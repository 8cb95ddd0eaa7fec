-- The definitions that private contracts of this crate cite.
pub mod Ends
pub mod Operands
pub mod Conditions
pub mod Hulls
pub mod Scopes
pub mod Assigning
pub mod Executing
pub mod Changes
pub mod Naming
pub mod Rounds
