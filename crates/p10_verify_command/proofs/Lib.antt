-- The lemmas of this crate, by subject.
pub mod Weighing
pub mod Deciding
pub mod Answering
pub mod OneAnswer
