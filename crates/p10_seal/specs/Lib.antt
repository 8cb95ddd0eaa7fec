-- The definitions that the contracts of this crate cite.
pub mod Sealing
pub mod Saying
pub mod Laws
