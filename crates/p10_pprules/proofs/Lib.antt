-- The lemmas of this crate, by subject.
pub mod Booleans
pub mod Members
pub mod Using
pub mod Edging
pub mod Gathered
pub mod Nesting
pub mod Forms
pub mod Stars
pub mod Macros
pub mod Exact
pub mod Ordered
