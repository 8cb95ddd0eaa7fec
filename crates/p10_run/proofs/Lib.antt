-- Lemmas on whole runs.
pub mod Inputs
pub mod Outputs
pub mod Calls
