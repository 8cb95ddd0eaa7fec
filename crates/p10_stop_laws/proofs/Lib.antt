-- Lemmas by subject.
pub mod Operators
pub mod Alive
pub mod Ending
pub mod Pointing
pub mod Moves
pub mod Access
pub mod Freeing
pub mod Shapes
pub mod Operated
pub mod Among
pub mod Giving
pub mod Present
pub mod Values
pub mod Statements
pub mod Calls
pub mod Runs
pub mod Names
