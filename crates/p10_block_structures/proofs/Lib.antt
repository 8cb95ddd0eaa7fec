pub mod Inside
pub mod Keeping
pub mod KeepingStatements
