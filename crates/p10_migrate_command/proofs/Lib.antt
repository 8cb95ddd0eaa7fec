-- The lemmas of this crate, by subject.
pub mod Coming
pub mod Deciding
pub mod Answering
pub mod OneAnswer
pub mod Sealed
pub mod Verified
pub mod Succeeding
pub mod Judged
