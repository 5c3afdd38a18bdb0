mod LinkCounts
mod ListedLimits
mod NamedPlaces
pub mod Tallied
pub mod Ranked
