-- What the private functions of this crate rest on.
pub mod Cut
pub mod Firsts
pub mod Numbering
pub mod Sites
