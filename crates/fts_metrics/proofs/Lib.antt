pub mod Texts
pub mod Places
pub mod ActiveRows
mod LinkTotals
mod Summing
mod Numbered
