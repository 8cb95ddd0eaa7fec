-- The lemmas of this crate, by subject.
pub mod Frames
pub mod Arguments
pub mod Entering
pub mod Beginning
pub mod Mapping
pub mod Calls
pub mod Accepted
pub mod Weak
pub mod Fitting
pub mod LoopNumbers
pub mod MainLoops
pub mod Ranks
pub mod Returning
pub mod Bodies
pub mod Runs
pub mod Within
pub mod Sound
