-- Lemmas, by subject.
pub mod Said
