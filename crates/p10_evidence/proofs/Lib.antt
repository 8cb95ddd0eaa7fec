pub mod LoopSearch
pub mod Trials
pub mod Standing
