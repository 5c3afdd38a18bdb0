pub mod Differences
pub mod Copy
pub mod Watch
pub mod Counting
pub mod Script
pub mod Steps
pub mod Tidying
