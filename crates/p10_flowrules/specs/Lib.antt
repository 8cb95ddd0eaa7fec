-- The definitions that the contracts of this crate cite: those of public clauses, and in `private` those of private ones alone.
pub mod TaskExits
pub mod AnyCalls
pub mod Allocating
pub mod FlowRows
pub mod Laws
pub mod private
