-- What the ghost fields and the private functions of this crate rest on.
pub mod Proofs
pub mod Partials
