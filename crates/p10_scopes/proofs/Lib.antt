-- Lemmas, by subject.
pub mod Scopes
pub mod Beginning
pub mod Declaring
pub mod Knowing
