-- What only the clauses of private functions cite: how the code comes to what is promised.
pub mod Spreads
pub mod Walking
pub mod Outermost
pub mod Laid
pub mod Listing
pub mod Knowing
