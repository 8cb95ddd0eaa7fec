-- The definitions that the contracts of this crate cite.
pub mod Standing
pub mod Tags
pub mod Expressions
pub mod Words
pub mod Blocks
pub mod Tagged
pub mod Shapes
pub mod Members
pub mod Declaring
pub mod StaticValues
pub mod Initializers
pub mod Laws
pub mod Views
pub mod ItemViews
pub mod Targets
pub mod private
