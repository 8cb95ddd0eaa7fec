-- What only the clauses of private functions cite.
pub mod Tallies
pub mod Walks
pub mod Totals
