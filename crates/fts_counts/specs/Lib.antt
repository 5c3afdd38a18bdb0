pub mod Jobs
pub mod Listed
pub mod Outcomes
pub mod Rows
