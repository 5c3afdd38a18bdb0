pub mod RipeFiles
pub mod Keys
pub mod Blocks
pub mod Crowd
pub mod Heads
pub mod Digests
pub mod Dests
