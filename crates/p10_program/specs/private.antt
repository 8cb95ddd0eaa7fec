-- What the private functions of this crate rest on.
pub mod Marked
pub mod Merging
pub mod Placing
pub mod Using
