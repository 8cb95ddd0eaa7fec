-- The definitions that contracts cite, each file on those above it.
pub mod Slots
pub mod Blocks
pub mod Views
pub mod Rooms
pub mod Frames
pub mod Turns
pub mod Nothing
pub mod Kinds
pub mod Listing
pub mod Releasing
pub mod Writing
pub mod Quick
pub mod Ready
