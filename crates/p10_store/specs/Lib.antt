-- The definitions that the contracts of calls cite.
pub mod Origins
pub mod Stores
pub mod Lending
-- Those that only a store's model and contracts of private functions cite.
pub mod Ranges
pub mod Places
