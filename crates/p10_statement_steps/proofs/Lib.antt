pub mod Typing
pub mod Declaring
pub mod Each
pub mod Doing
