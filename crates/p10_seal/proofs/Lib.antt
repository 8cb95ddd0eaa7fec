-- The lemmas of this crate, by subject.
pub mod Entries
pub mod Coded
pub mod Texts
pub mod Sizes
