pub mod Ends
pub mod Notes
pub mod Runs
