-- The lemmas of this crate, by subject.
pub mod Rejudged
pub mod Deciding
pub mod Answering
pub mod OneRechecking
pub mod OneAnswer
