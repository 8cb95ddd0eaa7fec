-- Lemmas by subject, each on those above it.
pub mod Flows
pub mod Clauses
pub mod Staying
pub mod Tasks
pub mod Runs
pub mod Certified
pub mod Computed
