-- The lemmas of this crate.
pub mod Rows
pub mod Walking
pub mod Verdicts
pub mod Agreeing
pub mod Matching
pub mod Asked
pub mod Cutting
pub mod Numbers
pub mod Splitting
pub mod Named
pub mod Naming
pub mod Deciding
pub mod OneCommand
pub mod Answering
