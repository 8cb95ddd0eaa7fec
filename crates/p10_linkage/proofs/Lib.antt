pub mod Agreements
pub mod ByNumbers
mod ComparedAlike
mod Comparisons
pub mod Joining
pub mod LyingAlike
pub mod OneType
pub mod Turns
pub mod Groupings
pub mod LastNames
pub mod LinkedTypes
mod UnitedAlike
mod ComparedWell
mod EachFound
mod Sameness
mod Covering
mod SharedNames
mod Reaching
