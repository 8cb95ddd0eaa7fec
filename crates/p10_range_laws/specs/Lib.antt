-- The definitions that the laws of this crate cite.
pub mod Tight
pub mod Constants
pub mod OtherConstants
