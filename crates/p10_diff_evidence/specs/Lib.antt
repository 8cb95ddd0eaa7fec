-- The definitions that the contracts of this crate cite, each on those above it.
pub mod Sections
pub mod Reading
pub mod Standing
pub mod Placing
pub mod Laws
pub mod private
