-- What only the clauses of private functions cite.
pub mod Granting
pub mod Recording
pub mod Telling
