-- Lemmas, by subject.
pub mod Trying
pub mod Offered
