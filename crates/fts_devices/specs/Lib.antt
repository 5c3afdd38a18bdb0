pub mod Accepting
pub mod Dialing
pub mod Hands
pub mod Lanes
pub mod Limits
pub mod Relief
pub mod Settings
pub mod Steps
