-- The lemmas of this crate.
mod Standing
mod Walks
mod Loops
mod Spreading
mod Searching
mod Noting
mod Members
mod Laying
mod Lying
mod Exact
mod Ordered
mod Collected
mod Namings
mod SmallPrograms
