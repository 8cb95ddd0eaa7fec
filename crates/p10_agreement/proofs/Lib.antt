-- Lemmas, by subject.
pub mod Looking
pub mod Asked
pub mod Agreeing
