-- Lemmas, by subject.
pub mod OneLine
pub mod Texts
pub mod Puts
pub mod AllLines
pub mod Whole
pub mod Placed
pub mod Visible
pub mod Small
