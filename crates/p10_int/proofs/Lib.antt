-- The lemmas of this crate.
pub mod Carried
pub mod Ranges
pub mod Reduced
pub mod Products
pub mod Quotients
pub mod Shifts
pub mod Conversions
pub mod CommonTypes
pub mod InRange
pub mod BitTables
pub mod Dividing
pub mod Complements
pub mod Operands
pub mod Sums
pub mod Remainders
pub mod TruthValues
