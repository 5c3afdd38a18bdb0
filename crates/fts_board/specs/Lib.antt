pub mod Json
pub mod Reports
pub mod History
pub mod Steps
pub mod Snapshot
pub mod Tallied
pub mod Boards
pub mod Parts
