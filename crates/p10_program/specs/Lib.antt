-- The definitions that the contracts of this crate cite.
pub mod ProgramNodes
pub mod Literals
pub mod Pragmas
pub mod FirstProblems
pub mod Undefined
pub mod Laws
pub mod Mains
pub mod Assembly
pub mod Numbered
pub mod Limits
pub mod private
