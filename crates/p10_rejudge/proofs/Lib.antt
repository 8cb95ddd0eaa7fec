-- Lemmas for this crate.
pub mod Unread
