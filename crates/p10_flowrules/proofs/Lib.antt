-- Lemmas by subject.
pub mod MemoryEdges
pub mod MemoryWalks
pub mod LateCalls
pub mod Items
pub mod Exiting
pub mod FlowOrder
pub mod FlowListed
pub mod Allocations
