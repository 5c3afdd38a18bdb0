pub mod Sources
pub mod Requests
pub mod Made
pub mod Input
