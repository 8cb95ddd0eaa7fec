-- How the code comes to what the public definitions say.
pub mod Scoping
pub mod Following
