-- The definitions that private contracts of this crate cite.
pub mod Forms
pub mod Marking
