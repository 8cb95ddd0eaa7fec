-- The definitions that the contracts of this crate cite, each on those above it.
pub mod Settings
pub mod Operations
pub mod Literals
pub mod Values
pub mod Statements
pub mod Clean
pub mod SmallSettings
pub mod Examples
pub mod private
