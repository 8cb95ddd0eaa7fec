-- The definitions that the contracts of this crate cite.
pub mod Vars
pub mod Claims
pub mod Lines
pub mod Certificate
pub mod Statements
pub mod Sealed
pub mod WrongLines
pub mod Reading
pub mod Records
pub mod Laws
-- how the private ones come to it
pub mod private
