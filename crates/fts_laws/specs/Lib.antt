pub mod Attempts
pub mod Ends
pub mod Inputs
pub mod Submissions
