pub mod Each
pub mod Steps
pub mod Tagging
pub mod Members
pub mod Shaping
pub mod Declaring
pub mod Initializing
