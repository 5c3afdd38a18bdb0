pub mod Ends
pub mod Notes
pub mod Opening
pub mod Runs
