-- The lemmas of this crate, by subject.
pub mod Recorded
pub mod Granted
pub mod Loaded
pub mod Telling
pub mod Running
pub mod OneAnswer
pub mod Certified
