-- The definitions that only clauses of private functions cite.
pub mod Telling
