-- Lemmas for this crate.
pub mod Growth
pub mod Knowing
pub mod Scopes
pub mod Keeping
pub mod Building
pub mod Making
pub mod MakingDeclarators
pub mod KeepingDeclarations
pub mod Unmarked
pub mod Expressions
