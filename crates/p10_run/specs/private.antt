-- What the clauses of private functions alone cite.
pub mod Standing
