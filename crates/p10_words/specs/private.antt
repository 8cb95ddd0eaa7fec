-- What the contracts of private functions alone cite.
pub mod Scanning
pub mod Parsing
pub mod Deciding
