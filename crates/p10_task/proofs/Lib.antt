-- Lemmas, by subject.
pub mod Passes
pub mod TaskItems
pub mod Entering
pub mod Items
pub mod Turns
pub mod Runs
pub mod WholeRuns
