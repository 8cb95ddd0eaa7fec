-- Lemmas for this crate.
pub mod Both
pub mod First
pub mod Second
pub mod Following
pub mod Aligning
pub mod Lexemes
pub mod Lexed
pub mod NoHash
pub mod Symbols
pub mod Parting
pub mod Roots
pub mod Pairing
pub mod Telling
