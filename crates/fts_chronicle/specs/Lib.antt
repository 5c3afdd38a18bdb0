pub mod Chronicle
pub mod Finishes
pub mod Kept
