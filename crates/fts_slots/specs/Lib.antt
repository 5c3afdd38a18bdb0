pub mod SlotsData
pub mod Tallies
pub mod LinkLimits
pub mod Ranks
pub mod Slots
