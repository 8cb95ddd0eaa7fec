-- The lemmas of this crate, by subject.
pub mod Places
pub mod Groups
pub mod Marks
pub mod Walks
pub mod Visiting
pub mod Edges
pub mod Closing
pub mod Found
pub mod Building
pub mod Results
pub mod ClosingLoop
pub mod Advancing
pub mod Cycles
