pub mod Rows
mod StatementRows
