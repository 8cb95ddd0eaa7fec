-- The lemmas of this crate, by subject.
pub mod Lists
pub mod Elements
pub mod Nodes
pub mod Putting
pub mod Lines
pub mod Flags
pub mod Exact
pub mod Ordered
