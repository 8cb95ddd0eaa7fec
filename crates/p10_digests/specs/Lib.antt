-- The definitions that the contracts of this crate cite.
pub mod Lines
pub mod Digests
pub mod Bare
pub mod Parted
pub mod Laws
pub mod SmallTexts
