-- The definitions that the contracts of this crate cites.
pub mod Comparable
pub mod Laws
pub mod Completed
