-- What the proofs of this crate alone speak of.
pub mod Links
pub mod Later
