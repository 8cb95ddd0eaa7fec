-- The definitions that private contracts of this crate cite.
pub mod Reading
