-- The lemmas of this crate, by subject.
pub mod Keeping
pub mod Differing
pub mod Files
pub mod Verdicts
pub mod Once
pub mod Claimed
pub mod LineCounts
pub mod Ranked
