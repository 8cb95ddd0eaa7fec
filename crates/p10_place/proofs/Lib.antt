pub mod Counting
mod Examples
pub mod Parts
pub mod Placings
pub mod Rows
pub mod Same
pub mod Spans
pub mod Standings
pub mod StatementPlacings
pub mod StatementStandings
pub mod Whole
