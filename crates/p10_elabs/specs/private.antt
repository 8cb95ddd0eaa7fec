-- What the private functions of this crate rest on.
pub mod CaseLabels
pub mod Cases
pub mod Clauses
pub mod Declarators
pub mod Forming
pub mod Labels
pub mod Marked
pub mod Marking
pub mod Parts
pub mod Returning
pub mod Specifying
pub mod StepViews
pub mod Steps
pub mod Walking
