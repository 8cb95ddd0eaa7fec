-- Lemmas by subject.
pub mod Lists
pub mod Standing
pub mod Edges
pub mod Recursing
pub mod Numbered
pub mod Uniqueness
pub mod Existence
