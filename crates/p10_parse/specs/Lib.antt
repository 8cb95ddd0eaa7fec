-- The definitions that the contracts of this crate cite.
pub mod Ways
pub mod DeclarationReading
pub mod StatementReading
pub mod ExternalReading
pub mod Roots
pub mod Examples
pub mod Laws
pub mod Units
pub mod private
