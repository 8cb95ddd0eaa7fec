-- Lemmas for this crate.
pub mod Types
pub mod Spans
pub mod Called
pub mod Agreeing
pub mod Values
pub mod Calls
pub mod Assigning
pub mod Manners
pub mod Parts
pub mod Loops
pub mod Statements
pub mod Bodies
pub mod Callees
pub mod Copied
pub mod Costs
pub mod Sums
pub mod Failures
