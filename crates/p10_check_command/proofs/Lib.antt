-- The lemmas of this crate, by subject.
pub mod Written
pub mod Ordered
pub mod Found
pub mod Said
pub mod OneAnswer
