-- The definitions that the contracts of this crate cite: those of public clauses, and in `private` those of private ones alone.
pub mod Gathering
pub mod Laws
pub mod Loading
pub mod Programs
pub mod Reading
pub mod Saying
pub mod Seen
pub mod Told
pub mod private
