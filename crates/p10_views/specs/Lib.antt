-- The definitions that the contracts of this crate cite.
pub mod Erased
pub mod Views
pub mod SmallViews
pub mod Laws
