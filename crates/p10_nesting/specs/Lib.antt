-- The definitions that the contracts of this crate cite.

-- what the public functions promise
pub mod Roles
pub mod Nesting
pub mod Rows
-- what holds of the private parts
pub mod private
