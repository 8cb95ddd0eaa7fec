-- The definitions that the contracts of this crate cite.
pub mod Heads
pub mod HeadViews
pub mod PlainHeads
pub mod Roots
pub mod Laws
pub mod private
