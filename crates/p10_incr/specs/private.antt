-- How the code comes to what the public definitions say.
pub mod Entries
pub mod Marks
pub mod Misfits
