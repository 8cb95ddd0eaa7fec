-- Lemmas, by subject.
pub mod Simple
pub mod KeptEnds
pub mod Sound
pub mod Turning
pub mod Ranges
pub mod Lists
pub mod Arms
pub mod Marked
