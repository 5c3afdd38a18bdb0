pub mod Views
pub mod Queries
pub mod Responses
pub mod Lines
