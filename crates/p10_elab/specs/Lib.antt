-- The definitions that the contracts of this crate cite.
pub mod Knowledge
pub mod Outer
pub mod RootEnds
pub mod OuterViews
pub mod SightingViews
pub mod KnownViews
pub mod UseWords
pub mod Programs
pub mod Answers
pub mod Laws
pub mod Examples
pub mod private
