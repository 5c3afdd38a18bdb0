pub mod Quiet
pub mod Gate
pub mod Passed
