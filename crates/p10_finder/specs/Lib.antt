-- The definitions that the contracts of this crate cite.
pub mod Loops
pub mod Functions
pub mod Ranking
pub mod Answers
pub mod Finding
pub mod Worked
pub mod Edges
pub mod Whole
pub mod private
pub mod Laws
