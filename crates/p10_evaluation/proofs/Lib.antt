-- The lemmas of this crate, by subject.
pub mod Hulls
pub mod Narrowing
pub mod Operating
pub mod Rules
pub mod Finding
pub mod FoundRows
pub mod Failing
pub mod Arguments
pub mod Choosing
pub mod Evaluating
pub mod Covering
pub mod WholeFunctions
