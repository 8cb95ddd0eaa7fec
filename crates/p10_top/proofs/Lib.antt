-- The lemmas of this crate, by subject.
pub mod CommandWords
pub mod Telling
pub mod Deriving
pub mod OneThing
pub mod Agreeing
pub mod Completing
pub mod Certified
