-- What only the clauses of private functions cite: how the code comes to what is promised.
pub mod Gathering
pub mod Graphs
pub mod Listing
pub mod Scanning
