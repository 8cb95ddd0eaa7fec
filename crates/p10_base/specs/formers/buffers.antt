pub mod ListBuf
