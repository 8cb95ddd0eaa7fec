-- What the contracts of private functions alone cite.
pub mod Kept
pub mod Changes
pub mod Nearness
pub mod Found
