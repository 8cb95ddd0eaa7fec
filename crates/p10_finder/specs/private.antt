-- What only the clauses of private functions cite: how the code comes to what is promised.
pub mod Looking
pub mod Looping
pub mod Judging
pub mod Counting
pub mod Limits
pub mod Texts
pub mod Visiting
pub mod Settling
