-- The definitions that the contracts of this crate cite.
pub mod Types
pub mod Sizes
pub mod Typed
pub mod Views
pub mod Nodes
pub mod Walks
pub mod Uses
pub mod Rows
pub mod Constants
pub mod Addresses
pub mod Whole
pub mod WholePrograms
pub mod Completing
pub mod Representing
pub mod Laws
pub mod private
