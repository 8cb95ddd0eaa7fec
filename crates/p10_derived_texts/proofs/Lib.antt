-- Lemmas, by subject.
pub mod Lengths
pub mod Ranks
pub mod Claims
pub mod Candidates
pub mod Walking
pub mod Results
pub mod Turning
pub mod Functions
pub mod Texts
