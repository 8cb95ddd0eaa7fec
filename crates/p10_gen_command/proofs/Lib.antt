-- The lemmas of this crate, by subject.
pub mod Gathering
pub mod Showing
pub mod Telling
pub mod OneAnswer
pub mod Succeeding
