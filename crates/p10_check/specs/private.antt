-- How the code comes to what the public definitions say.
pub mod Firsts
pub mod Shortfalls
pub mod Ranked
pub mod ShapesByTurn
pub mod Keeping
pub mod Readings
