-- What only the clauses of private functions cite: how the code comes to what is promised.
pub mod Adding
pub mod Runs
pub mod Reading
pub mod Scanning
pub mod Steps
