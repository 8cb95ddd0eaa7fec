-- Lemmas, by subject.
pub mod Filling
pub mod Trying
pub mod Turning
pub mod Offering
