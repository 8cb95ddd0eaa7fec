-- Lemmas for this crate.
pub mod Growing
pub mod Quiet
pub mod Values
pub mod Forms
pub mod Made
pub mod Labels
pub mod Statements
pub mod Trees
pub mod Declarations
pub mod Bodies
