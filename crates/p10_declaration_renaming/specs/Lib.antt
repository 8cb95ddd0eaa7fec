-- The definitions that the contracts of this crate cite.
pub mod Standings
pub mod Laws
