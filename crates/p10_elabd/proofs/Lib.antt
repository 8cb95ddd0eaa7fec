mod Bodies
mod BracedParts
mod DeclaratorArms
mod FirstScalars
mod FormRows
pub mod Growing
mod ItemRows
pub mod Keeping
mod KnownParameters
mod Membership
mod ParameterArms
mod SlotRows
mod SpecifierTrees
mod SurplusRows
mod TagArms
mod TagLists
mod TellingLengths
mod TreeRows
mod Walks
