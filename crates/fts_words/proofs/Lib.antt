mod Given
mod Reading
mod Ranges
mod Ids
mod Taking
mod Walked
pub mod Entered
mod Named
