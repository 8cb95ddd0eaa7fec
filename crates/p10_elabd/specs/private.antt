-- What the proofs of this crate alone speak of.
pub mod Heads
pub mod NamedMembers
