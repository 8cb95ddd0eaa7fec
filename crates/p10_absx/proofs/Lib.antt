-- Lemmas, by subject.
pub mod Entries
pub mod Trails
pub mod Nearness
pub mod BothSides
pub mod Hulls
pub mod Changing
pub mod Walking
pub mod HullEntries
