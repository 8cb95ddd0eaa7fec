-- What only the code of this crate speaks of.
pub mod Calling
pub mod Items
pub mod Lying
pub mod Marking
pub mod Renewing
pub mod Returning
pub mod Standing
pub mod Telling
pub mod Walking
