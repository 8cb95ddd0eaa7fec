-- The definitions that the contracts of this crate cites.
pub mod Laws
