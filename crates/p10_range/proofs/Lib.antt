-- The lemmas of this crate.
pub mod Small
pub mod Carried
pub mod Corners
pub mod Unsigned
pub mod Signs
pub mod Ends
pub mod Holding
pub mod Digits
pub mod HoldingBits
pub mod Held
pub mod Growing
pub mod GrowingBits
pub mod Typed
pub mod CommonPart
pub mod Pairs
pub mod DividingPairs
pub mod RowPairs
