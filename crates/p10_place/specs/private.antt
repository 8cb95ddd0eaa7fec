-- What only the clauses of private functions cite: how lists of the code are seen.
pub mod Lists
pub mod Marks
