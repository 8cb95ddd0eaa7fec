pub mod Counting
pub mod Consuming
pub mod Scanning
pub mod Speaking
pub mod Parts
pub mod Leaving
pub mod Heading
