-- The lemmas of this crate, by subject.
pub mod Cuts
pub mod Breaking
pub mod Definitions
pub mod Repeats
pub mod Outcomes
pub mod Marks
pub mod Places
pub mod Climbs
pub mod Trees
pub mod Truths
pub mod Heads
