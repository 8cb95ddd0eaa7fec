-- The definitions that the contracts of this crate cite.
pub mod Addresses
pub mod Locals
pub mod LocalDeclarations
pub mod Expressions
pub mod Marks
pub mod Statements
pub mod Laws
pub mod LocalViews
pub mod ItemViews
pub mod FrameViews
pub mod private
