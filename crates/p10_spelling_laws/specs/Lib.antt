-- The definitions that the contracts of this crate cite.
pub mod Outside
pub mod Lexed
pub mod Counterparts
pub mod Laws
