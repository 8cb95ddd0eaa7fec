-- What only the clauses of private functions cite: how the code comes to what is promised.
pub mod Judging
pub mod Deciding
