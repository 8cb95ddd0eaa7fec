-- The definitions that the contracts of this crate cite.
pub mod First
pub mod Scopes
pub mod Innermost
pub mod Operands
pub mod Operators
pub mod Calls
pub mod TypeNames
pub mod Literals
pub mod Judging
pub mod Laws
pub mod Wholeness
pub mod Views
pub mod PlainScopes
pub mod Built
pub mod Answers
pub mod private
