-- Lemmas, by subject.
pub mod Ranks
pub mod Entering
pub mod Entries
pub mod Clauses
pub mod Rounds
pub mod WholeLoops
pub mod Trials
pub mod Keeping
pub mod Bounded
pub mod Numbering
