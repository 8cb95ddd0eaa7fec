pub mod Fits
mod FirstUses
mod Merges
mod Places
mod UsesTold
mod PragmaRows
