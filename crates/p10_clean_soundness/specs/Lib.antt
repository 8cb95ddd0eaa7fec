-- The definitions that the contracts of this crate cite, and in `private` those that only its lemmas do.
pub mod Operators
pub mod Laws
pub mod private
