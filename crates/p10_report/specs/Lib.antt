-- The definitions that the contracts of this crate cite.
pub mod Lines
pub mod Stops
pub mod Messages
pub mod Endings
pub mod Violations
pub mod Json
pub mod Laws
pub mod private
