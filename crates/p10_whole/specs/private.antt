-- What only the clauses of private functions cite.
pub mod Agreeing
pub mod Places
pub mod Scalars
pub mod Shows
pub mod Surroundings
pub mod Targets
pub mod Headings
pub mod Labels
pub mod Orders
pub mod Regions
pub mod Updates
