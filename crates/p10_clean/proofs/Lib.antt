pub mod Looking
pub mod Setting
pub mod Walked
pub mod Forms
pub mod Firsts
pub mod Functions
