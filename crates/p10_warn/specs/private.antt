-- What only the clauses of private functions cite: how the code comes to what is promised.
pub mod Branches
pub mod Marked
pub mod Numbers
pub mod NamedExtents
pub mod Listing
pub mod ScopeNames
pub mod Contexts
