-- Lemmas for this crate.
pub mod Deciding
pub mod FirstFound
pub mod Suffice
pub mod Marks
pub mod Entries
pub mod Misfits
pub mod Judged
