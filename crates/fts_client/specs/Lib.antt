pub mod Worlds
pub mod Hearing
pub mod Links
pub mod MemoryLinks
pub mod RequestBytes
pub mod Tries
pub mod Ends
