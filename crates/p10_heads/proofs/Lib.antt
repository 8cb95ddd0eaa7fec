pub mod ListRows
pub mod CutRoots
mod BlockNumbers
mod BlockObjects
mod DefiningOnce
mod FirstNames
mod Numbered
mod RootHeads
mod Sited
