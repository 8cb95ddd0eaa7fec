-- Lemmas by subject: what there is; which names stay.
pub mod WordsEnd
pub mod PartsThere
pub mod LinesThere
pub mod ProgramsExpand
pub mod FilesThere
pub mod Slots
pub mod GatheringEnds
pub mod Staying
