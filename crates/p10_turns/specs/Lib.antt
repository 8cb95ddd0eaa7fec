-- The definitions that the contracts of this crate cite, each on those above it.
pub mod Entrances
pub mod LoopParts
pub mod Ranked
pub mod Evidence
pub mod Laws
pub mod SmallEvidence
