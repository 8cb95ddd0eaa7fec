pub mod buffers
