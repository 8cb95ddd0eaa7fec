-- What the private functions of this crate rest on.
pub mod Agreeing
pub mod Comparing
pub mod Covering
pub mod Grouping
pub mod Lookups
pub mod Meetings
pub mod Reaching
