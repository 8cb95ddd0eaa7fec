pub mod Seeking
pub mod Trials
