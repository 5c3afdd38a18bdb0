pub mod Sorting
pub mod Orders
pub mod QueueRooms
mod Places
