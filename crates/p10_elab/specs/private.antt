-- What the proofs of this crate alone speak of.
pub mod Defining
pub mod Bodies
pub mod BodyHeads
pub mod Opening
pub mod Together
