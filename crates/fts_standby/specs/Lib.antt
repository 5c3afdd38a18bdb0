pub mod Worlds
pub mod Entries
pub mod Hearing
pub mod Ends
pub mod Asking
pub mod Following
pub mod Reaching
