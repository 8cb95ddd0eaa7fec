-- Lemmas of this crate.
mod Linking
mod Keeping
mod Later
