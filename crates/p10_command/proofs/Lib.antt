-- The lemmas of this crate, by subject.
pub mod Stopped
pub mod Answered
pub mod Sources
pub mod OneOutput
pub mod Once
pub mod Causes
pub mod Files
pub mod Statuses
