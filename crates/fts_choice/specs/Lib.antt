pub mod Draws
pub mod LeastPlaces
pub mod LinkOrder
