-- The definitions that only the contracts of private functions cite.
pub mod Counted
pub mod Updating
pub mod Walking
pub mod Numbers
