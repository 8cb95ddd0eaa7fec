-- Lemmas for this crate and those above it.
pub mod Gathering
pub mod HexText
pub mod Naming
