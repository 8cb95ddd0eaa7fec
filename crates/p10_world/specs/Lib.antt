-- The definitions that the contracts of this crate cite.
pub mod Faults
pub mod Files
pub mod Source
pub mod Sink
pub mod Plan
pub mod HeldFiles
pub mod Given
pub mod MemSink
pub mod MemFiles
pub mod MemSource
pub mod Sure
pub mod Host
