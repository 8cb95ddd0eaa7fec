-- The definitions, each file on those above it.
pub mod Operations
pub mod Frames
pub mod Machine
pub mod ValueCode
pub mod StatementCode
pub mod ProgramCode
pub mod TaskCode
pub mod ConstantCode
pub mod Law
pub mod Examples
