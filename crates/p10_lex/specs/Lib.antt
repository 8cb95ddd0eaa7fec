-- The definitions that the contracts of this crate cite: those of public clauses, to which `Lexes` leads, and in `private` those
-- of private ones alone.
pub mod Bytes
pub mod Splices
pub mod Lexemes
pub mod Integers
pub mod Characters
pub mod Literals
pub mod Constants
pub mod Pieces
pub mod Refusals
pub mod Lexes
pub mod Slices
pub mod private
