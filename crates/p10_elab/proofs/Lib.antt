pub mod Answers
pub mod Computed
pub mod Flags
mod Cutting
mod NumberedObjects
mod Stages
mod TellingNames
pub mod FunctionBodies
pub mod Objects
pub mod OpenedBodies
pub mod OuterDeclarators
pub mod OuterTypes
pub mod Parameters
pub mod PassedRoots
pub mod DefinedSites
mod KnownTogether
mod WordsOfUses
