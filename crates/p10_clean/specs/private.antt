-- What only the clauses of private functions cite.
pub mod Code
pub mod Walking
pub mod Assigning
pub mod Telling
