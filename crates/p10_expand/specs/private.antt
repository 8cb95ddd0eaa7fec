-- What only the clauses of private functions cite: how the code comes to what is promised.
pub mod Standing
pub mod Skipping
pub mod Judging
pub mod Running
pub mod Steps
