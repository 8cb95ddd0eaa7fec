-- The definitions that the contracts of this crate cite.
pub mod Renaming
pub mod Laws
pub mod SmallRenamings
