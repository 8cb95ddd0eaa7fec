-- What only the clauses of private functions cite: how the code comes to what is promised.
pub mod Breaks
pub mod Climbing
pub mod Listed
pub mod Parts
pub mod Valued
pub mod Reading
pub mod Pieces
pub mod Telling
pub mod Signs
