-- The definitions that the contracts of this crate cite.
pub mod Lookup
pub mod Bound
pub mod Taken
pub mod private
