-- Lemmas, by subject.
pub mod Lists
pub mod ListedForms
pub mod Renewals
pub mod Marked
pub mod Claimed
pub mod Failing
pub mod Uncalled
pub mod Following
pub mod PassedLists
pub mod Restoring
pub mod Arms
