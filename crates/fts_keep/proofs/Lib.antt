pub mod Crosses
mod Rows
pub mod Moments
pub mod Lists
pub mod Tying
pub mod Exits
pub mod Damaged
pub mod Folded
pub mod Settled
pub mod Starting
pub mod Applying
pub mod Looking
pub mod Ending
