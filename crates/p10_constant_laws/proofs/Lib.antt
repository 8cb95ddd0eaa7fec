-- Lemmas by subject.
pub mod Known
