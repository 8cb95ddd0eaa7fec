-- Lemmas by subject, each on those above it.
pub mod Outcomes
pub mod Values
pub mod Statements
pub mod Calls
pub mod Quiet
pub mod Early
pub mod EarlyCalls
pub mod Parting
pub mod Runs
pub mod WholeSamples
pub mod Computed
