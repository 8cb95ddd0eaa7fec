-- The definitions that the contracts of this crate cite.
pub mod Mapped
pub mod MappedStatements
pub mod Knowing
pub mod Laws
