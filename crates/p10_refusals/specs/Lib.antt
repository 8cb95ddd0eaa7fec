-- The laws of this crate.
pub mod Bodies
pub mod Forms
pub mod InBodies
pub mod InRoots
pub mod Inside
pub mod Laws
pub mod MisplacedBodies
pub mod NameForms
pub mod Redeclarations
pub mod RepeatedLabels
pub mod Sizes
pub mod Switches
