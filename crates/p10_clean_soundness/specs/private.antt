-- What only the lemmas cite: what an execution within a clean certificate keeps.
pub mod Stays
pub mod Setting
pub mod Objects
pub mod Standing
