pub mod Ends
pub mod Notes
pub mod Told
pub mod Asking
pub mod Runs
