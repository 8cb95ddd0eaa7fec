-- Lemmas by subject.
pub mod Fitting
pub mod Sums
pub mod Products
pub mod Quotients
pub mod Tests
pub mod Constants
pub mod OtherConstants
