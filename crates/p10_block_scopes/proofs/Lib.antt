pub mod Extending
pub mod ExtendingStatements
