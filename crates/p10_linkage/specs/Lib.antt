-- The definitions that the contracts of this crate cite.
pub mod Linkage
pub mod LinkedViews
pub mod LinkedLists
pub mod Uniting
pub mod Compatible
pub mod Between
pub mod Laws
pub mod private
