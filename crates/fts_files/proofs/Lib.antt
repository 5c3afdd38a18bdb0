pub mod Playing
pub mod Writings
pub mod Readings
pub mod Fillings
mod Syncings
mod Makings
mod Moves
mod Openings
