-- What only the contracts of private functions and the views of `Records` and `VarRanges` cite.
pub mod Packing
pub mod Reading
pub mod Plain
pub mod States
pub mod Steps
pub mod Sections
pub mod Places
pub mod Found
pub mod Building
pub mod Partials
pub mod Pieces
pub mod Seals
pub mod Whole
