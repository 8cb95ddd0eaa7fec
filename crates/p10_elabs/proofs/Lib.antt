mod CaseSteps
mod CaseValues
mod DeclaratorRows
mod DeclaredObjects
mod Enumerated
mod FilledArrays
mod FormParts
mod GrowingNames
mod ItemKinds
mod ItemSteps
mod MarkTurns
mod NumberMarks
pub mod PieceRows
mod Specified
mod StartParts
mod StatementArms
mod StatementParts
mod SwitchParts
mod Takings
pub mod TreeNodes
mod Walking
