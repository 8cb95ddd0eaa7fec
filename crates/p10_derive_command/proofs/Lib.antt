-- The lemmas of this crate, by subject.
pub mod Telling
pub mod Deriving
pub mod Versions
pub mod OneAnswer
pub mod Succeeding
