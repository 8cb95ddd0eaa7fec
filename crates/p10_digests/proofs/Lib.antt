-- Lemmas for this crate.
pub mod OutsideLines
pub mod Roots
pub mod Bodies
pub mod Patterns
pub mod Running
pub mod WordsThere
pub mod Splitting
pub mod Telling
pub mod OutsideTelling
pub mod SmallTexts
pub mod Trees
pub mod Steps
