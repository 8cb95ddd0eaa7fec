-- The definitions that the contracts of this crate cite: those of public clauses, and in `private` those of private ones alone.
pub mod Command
pub mod Endings
pub mod Files
pub mod Sensors
pub mod Answers
pub mod Laws
pub mod private
