pub mod Occurrences
pub mod Blocks
pub mod Violations
pub mod Laws
pub mod Examples
pub mod private
